-- The tables of answers leave nothing free: whatever meets the table of a call equals the call. 01: "Every public call's contract
-- determines its result and every byte of the block". Here for the calls that only read, with what the other calls need for it.
use mathlib.Core.Path.{◌≡◌, refl, sym, ◌∙◌}
use mathlib.Core.Logic.{◌≢◌}
use mathlib.Core.Bool.{Bool, true, false}
use mathlib.Core.List.{List}
use mathlib.Core.Option.{Option, none, some}
use Prim.Native.Nat.{ℕ}
use native.Mathlib.Decide.{ℕ_discrete}
use native.Mathlib.Omega.{arith}
use Rattle.trees.specs.Entries.{Entry, next_entry}
use Rattle.blocks.specs.Trailer.{bad_size}
use Rattle.blocks.specs.Sound.{sound}
use Rattle.blocks.specs.Refusal.{Changed, bad_key, over_long}
use Rattle.blocks.specs.Read.{validate, shown, Found, get, shown_entries, Next, next_key}
use Rattle.blocks.specs.Tables.{Exactly, Passes, PassesKey, ValidateTable, GetTable, NextTable}
use Rattle.blocks.proofs.ReadCalls.{validate_table, get_table, next_table, least_above, none_above}

-- two answers that are given under one condition are the same where it holds
pub both : {m n k : ℕ} {C : Type 0} → Exactly m k C → Exactly n k C → C → m ≡ n
both x y c = x.given c ∙ sym (y.given c)

-- either 1 applies, or 2, or the block passes
module _ (b : List ℕ) {Goal : Type 0} (bad : bad_size b ≡ true → Goal) (unsound : (bad_size b ≡ false) × (sound b ≡ false) → Goal) (good : Passes b → Goal) where
  pub passes_or : Goal
  passes_or = size (bad_size b) refl
    where
      valid : (t : Bool) → bad_size b ≡ false → sound b ≡ t → Goal
      valid true f e = good (f, e)
      valid false f e = unsound (f, e)

      size : (t : Bool) → bad_size b ≡ t → Goal
      size true e = bad e
      size false e = valid (sound b) e refl

-- either 1 applies, or 2, or 3, or none of them
module _ (b : List ℕ) (bad : Bool) {Goal : Type 0} (size : bad_size b ≡ true → Goal) (unsound : (bad_size b ≡ false) × (sound b ≡ false) → Goal)
    (key : (bad_size b ≡ false) × ((sound b ≡ true) × (bad ≡ true)) → Goal) (good : PassesKey b bad → Goal) where
  pub passes_key_or : Goal
  passes_key_or = passes_or b size unsound (λ p. judged p bad refl)
    where
      judged : Passes b → (t : Bool) → bad ≡ t → Goal
      judged p true e = key (p.0, (p.1, e))
      judged p false e = good (record { size = p.0; valid = p.1; key = e })

-- what a no and a yes leave tells what is beside the answer
pub beside_told : {A : Type 0} (n m : ℕ) (x y z : A) → n ≡ m → (n ≡ 0 → m ≡ 0 → x ≡ y) → (n ≢ 0 → x ≡ z) → (m ≢ 0 → y ≡ z) → x ≡ y
beside_told n m x y z same done left left' = elim (ℕ_discrete n 0) [
  | yes e ↦ done e (sym same ∙ e)
  | no other ↦ left other ∙ sym (left' (λ e. other (same ∙ e)))
]

pub changed_told : (q r : Changed) → q.answer ≡ r.answer → q.block ≡ r.block → q ≡ r
changed_told q r answer block = λ i. record { answer = answer i; block = block i }

module _ (b : List ℕ) where
  -- validation
  pub validate_told : (answer : ℕ) → ValidateTable b answer → answer ≡ validate b
  validate_told answer t =
      let u = validate_table b in
      passes_or b (both t.on_bad_size u.on_bad_size) (both t.unsound u.unsound) (both t.done u.done)

module _ (b key : List ℕ) where
  -- a look-up
  module _ (q r : Found) (t : GetTable b key q) (u : GetTable b key r) where
    get_refused : {k : ℕ} {C : Type 0} → k ≢ 0 → Exactly q.answer k C → Exactly r.answer k C → C → q ≡ r
    get_refused nonzero x y c =
        let answer = both x y c in
        let value : q.value ≡ r.value = t.zero (λ e. nonzero (sym (x.given c) ∙ e)) ∙ sym (u.zero (λ e. nonzero (sym (y.given c) ∙ e))) in
        λ i. record { answer = answer i; value = value i }

    gets_told : q ≡ r
    gets_told =
        passes_key_or b (bad_key key) (get_refused (omega arith) t.on_bad_size u.on_bad_size) (get_refused (omega arith) t.unsound u.unsound)
        (get_refused (omega arith) t.on_bad_key u.on_bad_key) (λ p. looked p (shown b key) refl)
      where
        looked : PassesKey b (bad_key key) → (o : Option ℕ) → shown b key ≡ o → q ≡ r
        looked p none e = get_refused (omega arith) t.absent u.absent (p, e)
        looked p (some value) e = (t.found value).1 (p, e) ∙ sym ((u.found value).1 (p, e))

  pub get_told : (r : Found) → GetTable b key r → r ≡ get b key
  get_told r t = gets_told r (get b key) t (get_table b key)

  -- the next key; the least key above is one
  module _ (q r : Next) (t : NextTable b key q) (u : NextTable b key r) where
    next_refused : {k : ℕ} {C : Type 0} → k ≢ 0 → Exactly q.answer k C → Exactly r.answer k C → C → q ≡ r
    next_refused nonzero x y c =
        let left = t.zero (λ e. nonzero (sym (x.given c) ∙ e)) in
        let left' = u.zero (λ e. nonzero (sym (y.given c) ∙ e)) in
        let answer = both x y c in
        let size = left.0 ∙ sym left'.0 in
        let bytes = left.1 ∙ sym left'.1 in
        λ i. record { answer = answer i; size = size i; key = bytes i }

    nexts_told : q ≡ r
    nexts_told =
        passes_key_or b (over_long key) (next_refused (omega arith) t.on_bad_size u.on_bad_size) (next_refused (omega arith) t.unsound u.unsound)
        (next_refused (omega arith) t.on_bad_key u.on_bad_key) (λ p. walked p (next_entry key (shown_entries b)) refl)
      where
        walked : PassesKey b (over_long key) → (o : Option Entry) → next_entry key (shown_entries b) ≡ o → q ≡ r
        walked p none e = next_refused (omega arith) t.absent u.absent (p, none_above b key p.valid e)
        walked p (some entry) e =
            let least = least_above b key p.valid entry e in
            (t.found entry.key).1 (p, least) ∙ sym ((u.found entry.key).1 (p, least))

  pub next_told : (r : Next) → NextTable b key r → r ≡ next_key b key
  next_told r t = nexts_told r (next_key b key) t (next_table b key)
