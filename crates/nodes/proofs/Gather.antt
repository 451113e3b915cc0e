-- Laws of gathering lists over a range of numbers.
use mathlib.Core.Path.{◌≡◌, refl, sym, ap, ◌∙◌, subst}
use mathlib.Core.Logic.{◌≢◌}
use mathlib.Core.List.{List, [], ◌++◌}
use mathlib.Core.Option.{Option, some}
use Prim.Native.Nat.{ℕ, zero, suc, ◌+◌, ◌≤◌, ◌<◌}
use native.Mathlib.Decide.{ℕ_discrete}
use native.Mathlib.Omega.{arith}
use borrow.Author.Tests.{ne_eqb}
use Rattle.cells.specs.Memory.{Memory}
use Rattle.cells.specs.Occurrences.{occurrences}
use Rattle.cells.proofs.Choice.{bound, keep}
use Rattle.cells.proofs.Occurrences.{occurrences-append, Agree, agree_less}
use Rattle.nodes.specs.Split.{gather, under}

-- the first place of a gathering, and the others
pub gather_cut : (f : ℕ → Option (List ℕ)) (count from : ℕ) (cs : List ℕ) → gather f (suc count) from ≡ some cs
    → (a : List ℕ) × (b : List ℕ) × (f from ≡ some a) × (gather f count (from + 1) ≡ some b) × (a ++ b ≡ cs)
    × ((c : ℕ) → occurrences c cs ≡ occurrences c a + occurrences c b)
unfolding gather
gather_cut f count from cs e =
    let p = bound _ _ e in
    let q = bound _ _ p.2 in
    let s : p.0 ++ q.0 ≡ cs = cc in
    (p.0, q.0, p.1, q.1, s, λ c. ap (occurrences c) (sym s) ∙ occurrences-append c p.0 q.0)

pub gather_join : (f : ℕ → Option (List ℕ)) (count from : ℕ) (a b : List ℕ) → f from ≡ some a → gather f count (from + 1) ≡ some b
    → gather f (suc count) from ≡ some (a ++ b)
unfolding gather
gather_join f count from a b first others = keep _ first (keep _ others refl)

-- what is gathered at one place is part of the whole
pub gather_at : (f : ℕ → Option (List ℕ)) (count from y : ℕ) (cs : List ℕ) → from ≤ y → y < from + count → gather f count from ≡ some cs
    → (a : List ℕ) × (f y ≡ some a) × ((c : ℕ) → occurrences c a ≤ occurrences c cs)
gather_at f zero from y cs low high e = absurd (omega arith)
gather_at f (suc count) from y cs low high e =
    let p = gather_cut f count from cs e in
    elim (ℕ_discrete from y) [
      | yes here ↦ (p.0, subst (λ z. f z ≡ some p.0) here p.2, λ c. omega (arith, p.5 c))
      | no later ↦
          let r = gather_at f count (from + 1) y p.1 (omega arith) (omega arith) p.3 in
          (r.0, r.1, λ c. omega (arith, p.5 c, r.2 c))
    ]

-- a gathering that is the same at each place is the same
pub gather_same : (f g : ℕ → Option (List ℕ)) (count from : ℕ) (cs : List ℕ)
    → ((y : ℕ) (a : List ℕ) → from ≤ y → y < from + count → f y ≡ some a → ((c : ℕ) → occurrences c a ≤ occurrences c cs) → g y ≡ some a)
    → gather f count from ≡ some cs → gather g count from ≡ some cs
gather_same f g zero from cs each e = unfold gather in e
gather_same f g (suc count) from cs each e =
    let p = gather_cut f count from cs e in
    let others =
    gather_same f g count (from + 1) p.1
    (λ y a low high at less. each y a (omega arith) (omega arith) at (λ c. omega (arith, p.5 c, less c))) p.3 in
    gather_join g count from p.0 p.1 (each from p.0 (omega arith) (omega arith) p.2 (λ c. omega (arith, p.5 c))) others ∙ ap some p.4

-- a gathering that differs at one place differs by what is gathered there
pub gather_change : (f g : ℕ → Option (List ℕ)) (count from y : ℕ) (a a' cs : List ℕ) → from ≤ y → y < from + count
    → f y ≡ some a → g y ≡ some a'
    → ((z : ℕ) (b : List ℕ) → from ≤ z → z < from + count → z ≢ y → f z ≡ some b → ((c : ℕ) → occurrences c b ≤ occurrences c cs) → g z ≡ some b)
    → gather f count from ≡ some cs
    → (cs' : List ℕ) × (gather g count from ≡ some cs')
    × ((c : ℕ) → occurrences c cs' + occurrences c a ≡ occurrences c cs + occurrences c a')
gather_change f g zero from y a a' cs low high old new each e = absurd (omega arith)
gather_change f g (suc count) from y a a' cs low high old new each e =
    let p = gather_cut f count from cs e in
    elim (ℕ_discrete from y) [
      | yes here ↦
          let others : gather g count (from + 1) ≡ some p.1 =
          gather_same f g count (from + 1) p.1
          (λ z b l h at less. each z b (omega arith) (omega arith) (omega arith) at (λ c. omega (arith, p.5 c, less c))) p.3 in
          let was : f from ≡ some a = rw here old in
          let was_first : f from ≡ some p.0 = p.2 in
          let same : a ≡ p.0 = cc in
          let now : g from ≡ some a' = rw here new in (
            a' ++ p.1,
            gather_join g count from a' p.1 now others,
            λ c. omega (arith, occurrences-append c a' p.1, p.5 c, ap (occurrences c) same),
          )
      | no later ↦
          let r =
          gather_change f g count (from + 1) y a a' p.1 (omega arith) (omega arith) old new
          (λ z b l h other at less. each z b (omega arith) (omega arith) other at (λ c. omega (arith, p.5 c, less c))) p.3 in
          let now : g from ≡ some p.0 = each from p.0 (omega arith) (omega arith) later p.2 (λ c. omega (arith, p.5 c)) in (
            p.0 ++ r.0,
            gather_join g count from p.0 r.0 now r.1,
            λ c. omega (arith, occurrences-append c p.0 r.0, r.2 c, p.5 c),
          )
    ]

-- where every place has the empty list
pub gather_nil : (f : ℕ → Option (List ℕ)) (count from : ℕ) → ((y : ℕ) → f y ≡ some []) → gather f count from ≡ some []
gather_nil f zero from each = unfold gather in refl
gather_nil f (suc count) from each = gather_join f count from [] [] (each from) (gather_nil f count (from + 1) each)

-- NONE has nothing below, and any other word what is found for it
pub under_zero : (f : ℕ → Option (List ℕ)) → under f 0 ≡ some []
unfolding under
under_zero f = refl

pub under_word : (f : ℕ → Option (List ℕ)) (w : ℕ) → w ≢ 0 → under f w ≡ f w
unfolding under
under_word f w other = rw (ne_eqb w 0 other)

-- where two findings are the same for each word, they are so under it
pub under_same : (f g : ℕ → Option (List ℕ)) (w : ℕ) (a : List ℕ) → (w ≢ 0 → f w ≡ some a → g w ≡ some a)
    → under f w ≡ some a → under g w ≡ some a
under_same f g w a each e = elim (ℕ_discrete w 0) [
  | yes zero_word ↦ ap (under g) zero_word ∙ under_zero g ∙ sym (under_zero f) ∙ ap (under f) (sym zero_word) ∙ e
  | no other ↦ under_word g w other ∙ each other (sym (under_word f w other) ∙ e)
]

-- two findings are alike where memories are alike on the cells found
abbrev pub Framed : Memory → Memory → (ℕ → Option (List ℕ)) → (ℕ → Option (List ℕ)) → Type 0
Framed m m' f g = (w : ℕ) (a : List ℕ) → f w ≡ some a → Agree m m' a → g w ≡ some a

pub under_frame : (m m' : Memory) (f g : ℕ → Option (List ℕ)) → Framed m m' f g → Framed m m' (under f) (under g)
under_frame m m' f g framed w a e agree = under_same f g w a (λ other found. framed w a found agree) e

-- and so are the gatherings of them under words that are the same
pub words_frame : (m m' : Memory) (f g : ℕ → Option (List ℕ)) (words words' : ℕ → ℕ) (count : ℕ) (cs : List ℕ) → Framed m m' f g
    → ((y : ℕ) → y < count → words y ≡ words' y) → gather (λ y. under f (words y)) count 0 ≡ some cs → Agree m m' cs
    → gather (λ y. under g (words' y)) count 0 ≡ some cs
words_frame m m' f g words words' count cs framed same e agree =
    gather_same (λ y. under f (words y)) (λ y. under g (words' y)) count 0 cs
    (λ y a low high at less.
    subst (λ w. under g w ≡ some a) (same y (omega arith))
    (under_frame m m' f g framed (words y) a at (agree_less m m' cs a (λ c h. omega (arith, less c)) agree))) e
