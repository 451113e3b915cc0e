-- Parts of the walk of a page: the path, a page that goes on, and a child's records before the rest.
use mathlib.Core.Path.{◌≡◌, refl, sym, ap, ◌∙◌, subst}
use mathlib.Core.Logic.{◌≢◌}
use mathlib.Core.Bool.{true, false}
use mathlib.Core.List.{List, [], ◌∷◌, ◌++◌, map, map-append}
use mathlib.Core.Option.{none}
use Prim.Native.Nat.{ℕ, ◌+◌, ◌≤◌, ◌<◌}
use native.Mathlib.Omega.{arith}
use native.Mathlib.Numerals.{add-one}
use lib.ListN.{length, take, set}
use lib.Seq.{take-suc-set, take-set-le, take-take}
use Rattle.cells.specs.Memory.{Memory}
use Rattle.cells.proofs.Choice.{never}
use Rattle.nodes.specs.Layout.{Layout, key_limit}
use Rattle.nodes.specs.Node.{read}
use Rattle.trees.specs.Entries.{Entry, below}
use Rattle.trees.specs.Code.Coded.{Grown}
use Rattle.trees.proofs.LookSteps.{grown-read}
use Rattle.pages.specs.declared.record.Progress.{Progress}
use Rattle.pages.specs.Code.Progress.{Written, written_of, put_record, put_records, Open, Printed}
use Rattle.pages.specs.Code.Walk.{under}
use Rattle.pages.proofs.Walking.Below.{under-below}
use Rattle.pages.proofs.Writing.Progress.{put_append, put_one, put_stopped, put_counted, put_inside}

-- a path with one character more
pub path_more : (path : List ℕ) (at x : ℕ) → at < length path → take (at + 1) (set path at x) ≡ take at path ++ (x ∷ [])
path_more path at x inside = ap (λ (n : ℕ). take n (set path at x)) (add-one at) ∙ take-suc-set path at x inside

-- characters kept of a longer part that was kept
pub kept_less : (at depth : ℕ) (a b : List ℕ) → at ≤ depth → take depth a ≡ take depth b → take at a ≡ take at b
kept_less at depth a b less same =
    sym (take-take at depth a less) ∙ ap (take at) same ∙ take-take at depth b less

-- nothing to write
pub put_none : (s : Written) → put_records s [] ≡ s
unfolding put_records
put_none s = refl

pub put_first : (s : Written) (e : Entry) (l : List Entry) → put_records s (e ∷ l) ≡ put_records (put_record s e) l
unfolding put_records
put_first s e l = refl

-- a word that has a tree is read
pub grown_known : (layout : Layout) (m : Memory) (d w : ℕ) → Grown layout m d w → read layout m w ≢ none
grown_known layout m d w g absent = never (sym absent ∙ (grown-read layout m d w g).1)

-- a page goes on after records of which none failed to fit
pub still_open : (p q : Progress) (b b' : List ℕ) (l : List Entry) → Open p b → written_of q b' ≡ put_records (written_of p b) l → q.full ≡ false → Open q b'
still_open p q b b' l before same going =
    record {
      going = going;
      counted = subst (λ (w : Written). w.records ≤ w.used) (sym same) (put_counted (written_of p b) l before.counted);
      inside = subst (λ (w : Written). w.used ≤ length w.buffer) (sym same) (put_inside (written_of p b) l before.inside);
    }

-- the same after one record
pub once_open : (p q : Progress) (b b' : List ℕ) (e : Entry) → Open p b → written_of q b' ≡ put_record (written_of p b) e → q.full ≡ false → Open q b'
once_open p q b b' e before same = still_open p q b b' (e ∷ []) before (same ∙ sym (put_one (written_of p b) e))

-- the records below one character, whose own is put on the path, and those of more pairs behind them
module _ (at x : ℕ) (path path₁ path₂ : List ℕ) (room : at < key_limit) (put : (length path ≡ key_limit) × (path₁ ≡ set path at x))
    (s s₁ : Written) (inner later : List Entry) (first : Printed (at + 1) path₁ path₂ s (map (under (take (at + 1) path₁)) inner) s₁) where
  pub child_kept : take at path₂ ≡ take at path
  child_kept =
      kept_less at (at + 1) path₂ path₁ (omega arith) first.kept
      ∙ ap (take at) put.1 ∙ take-set-le at path at x (omega arith)

  pub child_then : put_records s (map (under (take at path)) (map (below x) inner ++ later)) ≡ put_records s₁ (map (under (take at path)) later)
  child_then =
      let P : List ℕ = take at path in
      let inside : at < length path = omega (arith, put.0) in
      let longer : take (at + 1) path₁ ≡ P ++ (x ∷ []) = ap (take (at + 1)) put.1 ∙ path_more path at x inside in
      let here : map (under P) (map (below x) inner) ≡ map (under (take (at + 1) path₁)) inner =
      under-below P x inner ∙ ap (λ (p : List ℕ). map (under p) inner) (sym longer) in
      ap (put_records s) (map-append (under P) (map (below x) inner) later)
      ∙ put_append s (map (under P) (map (below x) inner)) (map (under P) later)
      ∙ ap (λ (l : List Entry). put_records (put_records s l) (map (under P) later)) here
      ∙ ap (λ (w : Written). put_records w (map (under P) later)) (sym first.written)

  -- where one of the first did not fit, nothing more is written
  pub child_full : s₁.full ≡ true → s₁ ≡ put_records s (map (under (take at path)) (map (below x) inner ++ later))
  child_full full = sym (put_stopped s₁ _ full) ∙ sym child_then
