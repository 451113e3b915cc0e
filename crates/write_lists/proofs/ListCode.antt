-- The code of a write list: what it refuses, and that what stands in the stage is listed as the definition says.
use mathlib.Core.Path.{◌≡◌, refl, sym, ◌∙◌}
use mathlib.Core.Bool.{Bool, true, false, cond}
use mathlib.Core.List.{List, [], ◌∷◌}
use Prim.Native.Nat.{ℕ, ◌*◌, ◌≤◌, ◌<◌}
use native.Mathlib.Decide.{dec_lt}
use native.Mathlib.Omega.{arith}
use lib.Dec.{leb}
use lib.ListN.{length}
use borrow.Author.Tests.{le-ltb, lt-ltb, leb-true, leb-false}
use Rattle.std.proofs.lemmas.Result.{err_from_is_err_and}
use Rattle.nodes.specs.Layout.{Layout, cell_limit}
use Rattle.staging.specs.Code.Stage.{stage_cells}
use Rattle.staging.specs.declared.stage.BuildState.{BuildState}
use Rattle.blocks.specs.Answers.{refusal_number}
use Rattle.blocks.specs.Refusal.{refusal, first_refusal}
use Rattle.blocks.specs.declared.answer.Refusal as declared
use Rattle.blocks.proofs.RefusalSteps.{refusal_number_lem}
use Rattle.store.specs.Insert.{cells_free, cells_to_insert, no_room, block_build}
use Rattle.store.specs.Code.Changeable.{InStage}
use Rattle.store.specs.Code.Judged.{asked_first, Insertable}
use Rattle.store.proofs.ChangeCode.{changeable_fits, made_count, fitting_is, made_most, committed_as}
use Rattle.store.proofs.InsertCode.{insert_needed, build_most}
use Rattle.store.proofs.InsertRefused.{insertable_passed, judged_refused}
use Rattle.write_lists.specs.Records.{with_records}
use Rattle.write_lists.specs.WriteList.{records_for, short_list, write_list_refusals, refused_list, write_list}
use Rattle.write_lists.specs.Code.Listing.{staged_list}
use Rattle.write_lists.proofs.WriteListCall.{list_done, list_refused_as}
use Rattle.write_lists.proofs.ListSteps.{list_lacks, list_short, list_takes}

-- one of the answers 1 to 4, as the judging tells it
pub list_judged : (b key : List ℕ) (value : ℕ) (list : List ℕ) (why : declared.Refusal)
    → first_refusal (asked_first b key value) ≡ refusal_number why
    → write_list b key value list ≡ refused_list (refusal_number why) list
list_judged b key value list why e =
    list_refused_as b key value list (refusal_number why)
    (judged_refused b key value why e (refusal 7 (no_room b key) ∷ refusal 15 (short_list b key list) ∷ [])) (refusal_number_lem why)

-- the way through the code of a write list where the judging refuses
pub ruleset list_refused = (err_from_is_err_and, list_judged)

-- a build in the stage, after a judging that refuses nothing
module _ (layout : Layout) (b numbers : List ℕ) (free : ℕ) (key : List ℕ) (value root : ℕ) (p : Insertable layout b numbers free key value root)
    (made : BuildState) (stage : List ℕ) (fits : Bool) (s : InStage layout b (block_build b key value) made stage fits) where
  -- the stage has room for it
  most : length (block_build b key value).cells ≤ stage_cells
  most = build_most layout b numbers free key p.changeable value

  -- what listing it asks for
  pub list_ready : (1 ≤ layout.cells) × (layout.cells ≤ cell_limit) × (made.count ≤ stage_cells)
  list_ready =
      let f = changeable_fits layout b numbers free key p.changeable in
      (omega (arith, f.least), f.most, made_most layout b numbers free key p.changeable (block_build b key value) made stage fits s most)

  -- how many cells it has: as many as are needed
  count_is : made.count ≡ length (block_build b key value).cells
  count_is = made_count layout b numbers free key p.changeable (block_build b key value) made stage fits s

  needed_is : made.count ≡ cells_to_insert b key
  needed_is = count_is ∙ insert_needed b key value p.changeable.size p.good_value

  -- whether they are free
  room_is : leb (length (block_build b key value).cells) (cells_free b) ≡ fits
  room_is = fitting_is layout b numbers free key p.changeable (block_build b key value) made stage fits s

  -- it is listed, or refused, as the definition says
  module _ (list : List ℕ) where
    asked : first_refusal (write_list_refusals b key value list) ≡ cond (no_room b key) 7 (cond (short_list b key list) 15 0)
    unfolding first_refusal
    asked = insertable_passed b key value layout numbers free root p (refusal 7 (no_room b key) ∷ refusal 15 (short_list b key list) ∷ [])

    outcome_lacks : fits ≡ false → write_list b key value list ≡ staged_list layout numbers made stage fits list
    outcome_lacks lacks =
        let over = leb-false (length (block_build b key value).cells) (cells_free b) (room_is ∙ lacks) in
        let none : no_room b key ≡ true = lt-ltb (cells_free b) (cells_to_insert b key) (omega (arith, over, count_is, needed_is)) in
        list_refused_as b key value list 7 (asked ∙ rw none) (λ e. omega arith) ∙ sym (list_lacks layout numbers made stage fits list lacks)

    module _ (enough : fits ≡ true) where
      room : no_room b key ≡ false
      room =
          let within = leb-true (length (block_build b key value).cells) (cells_free b) (room_is ∙ enough) in
          le-ltb (cells_free b) (cells_to_insert b key) (omega (arith, within, count_is, needed_is))

      outcome_short : length list < 8 * records_for made.count → write_list b key value list ≡ staged_list layout numbers made stage fits list
      outcome_short short =
          let lacking : short_list b key list ≡ true = lt-ltb (length list) (8 * records_for (cells_to_insert b key)) (omega (arith, short, needed_is)) in
          list_refused_as b key value list 15 (asked ∙ rw (room, lacking)) (λ e. omega arith) ∙ sym (list_short layout numbers made stage fits list enough short)

      outcome_takes : 8 * records_for made.count ≤ length list → write_list b key value list ≡ staged_list layout numbers made stage fits list
      outcome_takes long =
          let holding : short_list b key list ≡ false = le-ltb (length list) (8 * records_for (cells_to_insert b key)) (omega (arith, long, needed_is)) in
          let same = committed_as layout b numbers free key p.changeable (block_build b key value) made stage fits s most enough in
          list_done b key value list (asked ∙ rw (room, holding))
          ∙ (λ i. record { answer = 0; records = records_for (sym count_is i); list = with_records list 0 (sym same i) })
          ∙ sym (list_takes layout numbers made stage fits list enough long _ refl)

    pub list_outcome_lem : write_list b key value list ≡ staged_list layout numbers made stage fits list
    list_outcome_lem = go fits refl
      where
        go : (t : Bool) → fits ≡ t → write_list b key value list ≡ staged_list layout numbers made stage fits list
        go false lacks = outcome_lacks lacks
        go true enough = elim (dec_lt (length list) (8 * records_for made.count)) [
          | yes short ↦ outcome_short enough short
          | no long ↦ outcome_takes enough (omega (arith, long))
        ]
