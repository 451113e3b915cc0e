-- A call that commits a build where nothing is refused and counts its cells, whatever the build: its answer, and what is beside it.
use mathlib.Core.Path.{◌≡◌, sym, ap, ◌∙◌, subst}
use mathlib.Core.Logic.{◌≢◌}
use mathlib.Core.List.{List}
use mathlib.Core.Option.{Option}
use Prim.Native.Nat.{ℕ}
use native.Mathlib.Decide.{ℕ_discrete}
use Rattle.cells.specs.Bytes.{IsBytes}
use Rattle.trees.specs.Lookup.{assign}
use Rattle.updates.specs.Built.{Built}
use Rattle.blocks.specs.Trailer.{layout_of, in_use}
use Rattle.blocks.specs.Refusal.{Refusal, first_refusal, Counted}
use Rattle.blocks.specs.Read.{shown}
use Rattle.blocks.specs.After.{After, slot_shown}
use Rattle.blocks.proofs.ReadCalls.{chosen_done, chosen_no}
use Rattle.store.specs.Committed.{done_call, refused_call, counted_by}
use Rattle.store.specs.Laid.{Laid}
use Rattle.store.proofs.ChangeCall.{Change, change_after, change_laid}

module _ (rs : List Refusal) (b : List ℕ) (x : Built) where
  pub counted_done : first_refusal rs ≡ 0 → counted_by rs b x ≡ done_call b x
  counted_done e = chosen_done (first_refusal rs) (done_call b x) (refused_call (first_refusal rs) b) e

  counted_not_done : first_refusal rs ≢ 0 → counted_by rs b x ≡ refused_call (first_refusal rs) b
  counted_not_done n = chosen_no (first_refusal rs) (done_call b x) (refused_call (first_refusal rs) b) n

  pub counted_number : (counted_by rs b x).answer ≡ first_refusal rs
  counted_number = elim (ℕ_discrete (first_refusal rs) 0) [
    | yes e ↦ ap (λ (i : Counted). i.answer) (counted_done e) ∙ sym e
    | no n ↦ ap (λ (i : Counted). i.answer) (counted_not_done n)
  ]

  -- any answer but 0 leaves the block and counts nothing
  pub counted_refused : (counted_by rs b x).answer ≢ 0 → ((counted_by rs b x).count ≡ 0) × ((counted_by rs b x).block ≡ b)
  counted_refused n =
      let e = counted_not_done (λ z. n (counted_number ∙ z)) in
      (ap (λ (i : Counted). i.count) e, ap (λ (i : Counted). i.block) e)

  pub counted_refused_as : (k : ℕ) → (counted_by rs b x).answer ≡ k → k ≢ 0 → counted_by rs b x ≡ refused_call k b
  counted_refused_as k given other =
      counted_not_done (λ z. other (sym given ∙ counted_number ∙ z)) ∙ ap (λ (n : ℕ). refused_call n b) (sym counted_number ∙ given)

  -- where the build is one change of a key, the law of that change
  module _ (key : List ℕ) (given : Option ℕ) (bytes : IsBytes b) (change : Change b key x given) (done : (counted_by rs b x).answer ≡ 0) where
    done_is : done_call b x ≡ counted_by rs b x
    done_is = sym (counted_done (sym counted_number ∙ done))

    pub counted_after : After b (counted_by rs b x).block (assign (shown b) key given) (in_use (layout_of b) b) (slot_shown b)
    counted_after =
        subst (λ (i : Counted). After b i.block (assign (shown b) key given) (in_use (layout_of b) b) (slot_shown b)) done_is
        (change_after b key x given bytes change)

    pub counted_laid : Laid b key x (counted_by rs b x).count (counted_by rs b x).block
    counted_laid = subst (λ (i : Counted). Laid b key x i.count i.block) done_is (change_laid b key x given bytes change)
