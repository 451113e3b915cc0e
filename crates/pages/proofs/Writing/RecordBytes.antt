-- The bytes of a record, written one after the other, are one record more of a page.
use mathlib.Core.Path.{◌≡◌, sym, ap, ◌∙◌}
use mathlib.Core.Bool.{true, false}
use mathlib.Core.List.{List, [], ◌∷◌, ◌++◌, append_assoc}
use Prim.Native.Nat.{ℕ, suc, ◌+◌, ◌-◌, ◌≤◌, ◌<◌}
use native.Mathlib.Nat.{add-zero}
use native.Mathlib.Numerals.{add-one}
use native.Mathlib.Omega.{arith}
use lib.ListN.{length, get_or, take, drop, set, length-append, length-set}
use lib.Seq.{length-take-le, take-suc, sets, length-sets, sets-eq}
use Rattle.cells.specs.Word.{with_word}
use Rattle.trees.specs.Entries.{entry_of}
use Rattle.pages.specs.declared.record.Progress.{Progress}
use Rattle.pages.specs.Record.{word_bytes, record_of}
use Rattle.pages.specs.Code.Progress.{Written, written_of, Open, put_bytes, put_record}
use Rattle.pages.proofs.Writing.Progress.{put_fits, put_over}

-- bytes put one after the other are bytes put at once
sets_put : (l : List ℕ) (at : ℕ) (bytes : List ℕ) → at + length bytes ≤ length l → sets l at bytes ≡ put_bytes l at bytes
unfolding put_bytes
sets_put l at bytes fits = sets-eq bytes l at fits ∙ append_assoc (take at l) bytes (drop (at + length bytes) l)

-- bytes put, and more behind them
sets_append : (l : List ℕ) (at : ℕ) (a b : List ℕ) → sets l at (a ++ b) ≡ sets (sets l at a) (at + length a) b
sets_append l at [] b = rw add-zero
sets_append l at (x ∷ a) b =
    let next : suc at + length a ≡ at + suc (length a) = omega arith in
    sets_append (set l at x) (suc at) a b ∙ ap (λ (n : ℕ). sets (sets (set l at x) (suc at) a) n b) next

-- a list with so many bytes of another copied into it
pub record Copied (l₀ : List ℕ) (at : ℕ) (s : List ℕ) (count : ℕ) (l : List ℕ) : Type 0 where
  pub same : l ≡ sets l₀ at (take count s)

-- one byte more
pub copy_more : (l₀ l s : List ℕ) (at j : ℕ) → Copied l₀ at s j l → j < length s → Copied l₀ at s (j + 1) (set l (at + j) (get_or s j 0))
copy_more l₀ l s at j copied inside =
    let size : length (take j s) ≡ j = length-take-le j s (omega arith) in
    let more : set l (at + j) (get_or s j 0) ≡ sets l₀ at (take (j + 1) s) =
    ap (λ (b : List ℕ). set b (at + j) (get_or s j 0)) copied.same
    ∙ ap (λ (n : ℕ). set (sets l₀ at (take j s)) (at + n) (get_or s j 0)) (sym size)
    ∙ sym (sets_append l₀ at (take j s) (get_or s j 0 ∷ []))
    ∙ ap (sets l₀ at) (sym (take-suc s j 0 inside) ∙ ap (λ (n : ℕ). take n s) (sym (add-one j))) in
    record { same = more }

-- bytes copied behind a length byte leave the length of a buffer
pub copy_length : (b l s : List ℕ) (start size at count : ℕ) → Copied (set b start size) at s count l → length l ≡ length b
copy_length b l s start size at count copied =
    ap length copied.same ∙ length-sets (set b start size) at (take count s) ∙ length-set b start size

-- a word is put as its four bytes
word_sets : (l : List ℕ) (at v : ℕ) → with_word l at v ≡ sets l at (word_bytes v)
unfolding with_word
word_sets l at v =
    let one : at + 1 ≡ suc at = omega arith in
    let two : at + 2 ≡ suc (suc at) = omega arith in
    let three : at + 3 ≡ suc (suc (suc at)) = omega arith in
    rw (one, two, three)

module _ (p : List ℕ) (size v : ℕ) (whole : size ≤ length p) where
  -- a record has its length byte, its key and a word
  record_size : length (record_of (entry_of (take size p) v)) ≡ size + 5
  record_size = omega (arith, length-append (take size p) (word_bytes v), length-take-le size p whole)

  -- the length byte, the copied key and the word behind it are a record
  record_bytes : (b b₁ b₂ : List ℕ) (start : ℕ) → start + (size + 5) ≤ length b → b₁ ≡ sets (set b start size) (start + 1) (take size p)
      → b₂ ≡ with_word b₁ (start + 1 + size) v → b₂ ≡ put_bytes b start (record_of (entry_of (take size p) v))
  record_bytes b b₁ b₂ start fits copied word =
      let key : List ℕ = take size p in
      let long : length key ≡ size = length-take-le size p whole in
      word ∙ word_sets b₁ (start + 1 + size) v
      ∙ ap (λ (l : List ℕ). sets l (start + 1 + size) (word_bytes v)) copied
      ∙ ap (λ (n : ℕ). sets (sets (set b start size) (start + 1) key) (start + 1 + n) (word_bytes v)) (sym long)
      ∙ sym (sets_append (set b start size) (start + 1) key (word_bytes v))
      ∙ ap (λ (n : ℕ). sets (set b start size) n (key ++ word_bytes v)) (add-one start)
      ∙ ap (λ (n : ℕ). sets b start (n ∷ (key ++ word_bytes v))) (sym long)
      ∙ sets_put b start (record_of (entry_of key v)) (omega (arith, record_size))

  module _ (progress : Progress) (b : List ℕ) (going : Open progress b) where
    -- a record that fits is written
    pub record_fits : (b₁ b₂ : List ℕ) (i : ℕ) → size + 5 ≤ length b - progress.used
        → Copied (set b progress.used size) (progress.used + 1) p i b₁ → b₂ ≡ with_word b₁ (progress.used + 1 + size) v → i ≡ size
        → ◌≡◌ {A = Written} (record { records = progress.records + 1; used = progress.used + size + 5; full = false; buffer = b₂ })
        (put_record (written_of progress b) (entry_of (take size p) v))
    record_fits b₁ b₂ i room copied word all =
        let fits : progress.used + (size + 5) ≤ length b = omega (arith, going.inside) in
        let used : progress.used + size + 5 ≡ progress.used + length (record_of (entry_of (take size p) v)) = omega (arith, record_size) in
        let key : b₁ ≡ sets (set b progress.used size) (progress.used + 1) (take size p) =
        copied.same ∙ ap (λ (n : ℕ). sets (set b progress.used size) (progress.used + 1) (take n p)) all in
        let buffer = record_bytes b b₁ b₂ progress.used fits key word in
        (λ t. record { records = progress.records + 1; used = used t; full = false; buffer = buffer t })
        ∙ sym (put_fits (written_of progress b) (entry_of (take size p) v) going.going (omega (arith, record_size)))

    -- one that does not is not
    pub record_over : length b - progress.used < size + 5
        → ◌≡◌ {A = Written} (record { records = progress.records; used = progress.used; full = true; buffer = b })
        (put_record (written_of progress b) (entry_of (take size p) v))
    record_over short =
        sym (put_over (written_of progress b) (entry_of (take size p) v) going.going (omega (arith, record_size, going.inside)))
