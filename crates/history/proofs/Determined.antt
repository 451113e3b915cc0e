-- Demand 3 leaves nothing free: whatever meets it does, from every fresh block and at every call of every list, what `ours` does, in
-- the answer, the count and every byte of the block.
use mathlib.Core.Path.{◌≡◌, refl, sym, ap, ◌∙◌, subst}
use mathlib.Core.Bool.{Bool}
use mathlib.Core.List.{List, [], ◌∷◌, ◌++◌}
use Prim.Native.Nat.{ℕ}
use native.Mathlib.Decide.{ℕ_discrete}
use lib.Dec.{eqb}
use lib.ListN.{length, get_or, drop}
use borrow.Author.Tests.{ne_eqb}
use Rattle.updates.specs.Built.{Built}
use Rattle.blocks.specs.Trailer.{layout_of, slots}
use Rattle.blocks.specs.Refusal.{Changed}
use Rattle.blocks.proofs.Determined.{beside_told}
use Rattle.snapshots.specs.Tables.{snapshot_fields, restore_fields, release_fields}
use Rattle.snapshots.proofs.Left.{left_told}
use Rattle.store.specs.Format.{format}
use Rattle.store.proofs.Format.{format_law}
use Rattle.store.proofs.Determined.{laid_told, format_told}
use Rattle.history.specs.Calls.{Call, inserting, removing, snapshotting, restoring, releasing, Implementation, Outcome, ours, outcome, run, answers_of, KeysAreBytes}
use Rattle.history.specs.Ledger.{Ledger, empty_ledger, note_insert, note_remove, note_call, ledger_answers, got_no_room, fed_by}
use Rattle.history.specs.Demand3.{AtBuild, AtKind, AtCall, AfterList, Demand3}
use Rattle.history.proofs.Beside.{Beside, beside-fresh}
use Rattle.history.proofs.OneCall.{call_step, call_at}

-- two calls that lay down the same build: where the ledger gives both answers by whether they are 7, they are one
build_told : (b key : List ℕ) (May : Type 0) (needed : ℕ) (build : Built) (o p : Outcome) → AtBuild b key May needed build o → AtBuild b key May needed build p
    → (note : Bool → ℕ) → o.answer ≡ note (eqb o.answer 7) → p.answer ≡ note (eqb p.answer 7) → o.answer ≡ p.answer
build_told b key May needed build o p x y note e f = elim (ℕ_discrete o.answer 7) [
  | yes seven ↦ seven ∙ sym (y.full (x.lacks seven))
  | no other ↦ e ∙ ap note (ne_eqb o.answer 7 other ∙ sym (ne_eqb p.answer 7 (λ seven. other (x.full (y.lacks seven))))) ∙ sym f
]

module _ (impl : Implementation) (b : List ℕ) where
  -- the answer of a call, where both are the ledger's
  answer_told : (count : ℕ) (l : Ledger) (call : Call) (o p : Outcome) → AtKind b call o → AtKind b call p
      → o.answer ≡ (note_call count l call (got_no_room call o.answer)).answer → p.answer ≡ (note_call count l call (got_no_room call p.answer)).answer
      → o.answer ≡ p.answer
  unfolding note_call got_no_room
  answer_told count l (inserting key value) o p x y e f = build_told b key _ _ _ o p x y (λ t. (note_insert l key value t).answer) e f
  answer_told count l (removing key) o p x y e f = build_told b key _ _ _ o p x y (λ t. (note_remove l key t).answer) e f
  answer_told count l (snapshotting slot) o p x y e f = e ∙ sym f
  answer_told count l (restoring slot) o p x y e f = e ∙ sym f
  answer_told count l (releasing slot) o p x y e f = e ∙ sym f

  -- the block where both are done
  block_told : (call : Call) (o p : Outcome) → length o.block ≡ length p.block → AtKind b call o → AtKind b call p
      → o.answer ≡ 0 → p.answer ≡ 0 → o.block ≡ p.block
  block_told (inserting key value) o p same x y e f = laid_told b key _ _ _ _ _ same (x.laid e) (y.laid f)
  block_told (removing key) o p same x y e f = laid_told b key _ _ _ _ _ same (x.laid e) (y.laid f)
  block_told (snapshotting slot) o p same x y e f = left_told b o.block p.block (snapshot_fields b slot) (x e) (y f)
  block_told (restoring slot) o p same x y e f = left_told b o.block p.block (restore_fields b slot) (x e) (y f)
  block_told (releasing slot) o p same x y e f = left_told b o.block p.block (release_fields b slot) (x e) (y f)

  -- and the count
  count_told : (call : Call) → AtKind b call (outcome impl b call) → AtKind b call (outcome ours b call)
      → (outcome impl b call).answer ≡ 0 → (outcome ours b call).answer ≡ 0 → (outcome impl b call).count ≡ (outcome ours b call).count
  unfolding outcome
  count_told (inserting key value) x y e f = (x.laid e).counted ∙ sym (y.laid f).counted
  count_told (removing key) x y e f = (x.laid e).counted ∙ sym (y.laid f).counted
  count_told (snapshotting slot) x y e f = refl
  count_told (restoring slot) x y e f = refl
  count_told (releasing slot) x y e f = refl

  -- all three
  outcome_told : (call : Call) → AtCall impl b call → AtCall ours b call → (outcome impl b call).answer ≡ (outcome ours b call).answer
      → outcome impl b call ≡ outcome ours b call
  outcome_told call x y same =
      let o : Outcome = outcome impl b call in
      let p : Outcome = outcome ours b call in
      let count : o.count ≡ p.count =
      beside_told o.answer p.answer o.count p.count 0 same (count_told call x.kind y.kind) x.zeros y.zeros in
      let block : o.block ≡ p.block =
      beside_told o.answer p.answer o.block p.block b same (block_told call o p (x.size ∙ sym y.size) x.kind y.kind) x.refused y.refused in
      λ i. record { answer = same i; count = count i; block = block i }

-- what is used of demand 3, from any block on, beside any ledger
record Follows (impl : Implementation) (count : ℕ) (b : List ℕ) (l : Ledger) : Type 0 where
  answers : (calls : List Call) → KeysAreBytes calls → answers_of impl b calls ≡ ledger_answers count l (fed_by impl b calls)
  each : (before : List Call) (call : Call) → KeysAreBytes (before ++ call ∷ []) → AtCall impl (run impl b before) call

module _ (impl : Implementation) (count : ℕ) where
  -- the first call of a list
  first_told : (b : List ℕ) (l : Ledger) → Beside count b l → Follows impl count b l → (call : Call) → KeysAreBytes (call ∷ [])
      → outcome impl b call ≡ outcome ours b call
  unfolding answers_of ledger_answers fed_by run
  first_told b l beside m call keys =
      let x : AtCall impl b call = m.each [] call keys in
      let y : AtCall ours b call = call_at count b l beside call keys.0 in
      outcome_told impl b call x y
      (answer_told impl b count l call (outcome impl b call) (outcome ours b call) x.kind y.kind
      (ap (λ (numbers : List ℕ). get_or numbers 0 0) (m.answers (call ∷ []) keys))
      (call_step count b l beside call keys.0).answers)

  -- the ledger and the block after it
  abbrev next : Ledger → Call → Outcome → Ledger
  next l call o = (note_call count l call (got_no_room call o.answer)).ledger

  beside-next : (b : List ℕ) (l : Ledger) → Beside count b l → Follows impl count b l → (call : Call) → KeysAreBytes (call ∷ [])
      → Beside count (outcome impl b call).block (next l call (outcome impl b call))
  beside-next b l beside m call keys =
      subst (λ (o : Outcome). Beside count o.block (next l call o)) (sym (first_told b l beside m call keys))
      (call_step count b l beside call keys.0).beside

  follows_next : (b : List ℕ) (l : Ledger) → Follows impl count b l → (call : Call) → KeysAreBytes (call ∷ [])
      → Follows impl count (outcome impl b call).block (next l call (outcome impl b call))
  unfolding answers_of ledger_answers fed_by run
  follows_next b l m call keys =
      record {
        answers = λ calls more. ap (λ (numbers : List ℕ). drop 1 numbers) (m.answers (call ∷ calls) (keys.0, more));
        each = λ before c more. m.each (call ∷ before) c (keys.0, more);
      }

  -- any call of a list
  call_told : (before : List Call) (call : Call) (b : List ℕ) (l : Ledger) → Beside count b l → Follows impl count b l → KeysAreBytes (before ++ call ∷ [])
      → outcome impl (run impl b before) call ≡ outcome ours (run ours b before) call
  unfolding run
  call_told [] call b l beside m keys = first_told b l beside m call keys
  call_told (c ∷ before) call b l beside m keys =
      call_told before call (outcome impl b c).block (next l c (outcome impl b c)) (beside-next b l beside m c (keys.0, tt)) (follows_next b l m c (keys.0, tt)) keys.1
      ∙ ap (λ (o : Outcome). outcome ours (run ours o.block before) call) (first_told b l beside m c (keys.0, tt))

  -- the whole list
  run_told : (calls : List Call) (b : List ℕ) (l : Ledger) → Beside count b l → Follows impl count b l → KeysAreBytes calls → run impl b calls ≡ run ours b calls
  unfolding run
  run_told [] b l beside m keys = refl
  run_told (c ∷ calls) b l beside m keys =
      run_told calls (outcome impl b c).block (next l c (outcome impl b c)) (beside-next b l beside m c (keys.0, tt)) (follows_next b l m c (keys.0, tt)) keys.1
      ∙ ap (λ (o : Outcome). run ours o.block calls) (first_told b l beside m c (keys.0, tt))

module _ (impl : Implementation) (d : Demand3 impl) (edition : ℕ) (start : List ℕ) where
  -- the fresh block
  pub fresh_as_ours : impl.format_call start edition ≡ format start edition
  fresh_as_ours = format_told edition start (impl.format_call start edition) (d.formats edition start)

  module _ (done : (format start edition).answer ≡ 0) where
    does : (impl.format_call start edition).answer ≡ 0
    does = ap (λ (c : Changed). c.answer) fresh_as_ours ∙ done

    follows : Follows impl (slots (layout_of (format start edition).block)) (format start edition).block empty_ledger
    follows =
        record {
          answers = λ calls keys. (subst (λ (c : Changed). AfterList impl c.block calls) fresh_as_ours (d.after_list edition start does calls keys)).answers;
          each = λ before call keys.
              subst (λ (c : Changed). AtCall impl (run impl c.block before) call) fresh_as_ours (d.at_call edition start does before call [] keys);
        }

    beside : Beside (slots (layout_of (format start edition).block)) (format start edition).block empty_ledger
    beside = beside-fresh edition start (format start edition).block (format_law edition start done)

    -- each call after any list: its answer, its count and the block that it leaves
    pub call_as_ours : (before : List Call) (call : Call) → KeysAreBytes (before ++ call ∷ [])
        → outcome impl (run impl (format start edition).block before) call ≡ outcome ours (run ours (format start edition).block before) call
    call_as_ours before call keys = call_told impl _ before call (format start edition).block empty_ledger beside follows keys

    -- the block after any list
    pub run_as_ours : (calls : List Call) → KeysAreBytes calls → run impl (format start edition).block calls ≡ run ours (format start edition).block calls
    run_as_ours calls keys = run_told impl _ calls (format start edition).block empty_ledger beside follows keys
