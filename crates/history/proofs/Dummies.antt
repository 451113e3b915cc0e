-- None of the dummies meets demand 3: each is refuted by a list of one to four calls on a block of four or eight cells.
use mathlib.Core.Path.{◌≡◌, refl, sym, ap, ◌∙◌}
use mathlib.Core.Logic.{◌≢◌}
use mathlib.Core.Bool.{true, false}
use mathlib.Core.List.{List, [], ◌∷◌}
use mathlib.Core.Option.{none, some}
use Prim.Native.Nat.{ℕ, ◌<◌}
use native.Mathlib.Decide.{ℕ_discrete}
use native.Mathlib.Omega.{arith}
use lib.ListN.{length, get_or}
use borrow.Author.Tests.{ne_eqb}
use Rattle.cells.specs.Bytes.{IsBytes, zeros}
use Rattle.cells.specs.Memory.{memory_of}
use Rattle.cells.proofs.Choice.{never}
use Rattle.cells.proofs.Words.{set_bytes, bytes_zeros}
use Rattle.trees.specs.Lookup.{empty_table, same_key, assign, update}
use Rattle.nodes.specs.Layout.{trailer_cells, is_trailer, valid_edition}
use Rattle.blocks.specs.Trailer.{bad_length, layout_of, root_word, slots, valid_slot, slot_word}
use Rattle.blocks.specs.Sound.{sound}
use Rattle.blocks.specs.Refusal.{over_long, bad_key, bad_new_key, bad_value}
use Rattle.blocks.specs.Read.{shown}
use Rattle.store.specs.Format.{bad_new_size, format}
use Rattle.store.specs.Insert.{cells_free, cells_to_insert, block_build}
use Rattle.store.specs.Remove.{block_removal}
use Rattle.snapshots.specs.Computing.{snapshots_open}
use Rattle.store.specs.Computing.{calls_open}
use Rattle.store.proofs.Format.{format_done}
use Rattle.history.specs.Calls.{Call, inserting, removing, snapshotting, restoring, Outcome, outcome, run, answers_of}
use Rattle.history.specs.Ledger.{empty_ledger, note_insert, note_remove, ledger_slot, note_snapshot, note_held, note_restore, note_call, ledger_after, ledger_answers, got_no_room, fed_by}
use Rattle.history.specs.Demand3.{ledger_beside, Demand3}
use Rattle.history.specs.Dummies.{always_no, only_formats, inserts_nothing, rootless_block, stores_no_root, restores_nothing, invents_count, writes_cell_zero, copied_into, restores_by_copy, removes_nothing, overcounts_removals, always_missing}
use Rattle.blocks.specs.After.{slot_shown}

-- a key of one letter, a fresh block of four cells, and the lists of calls
abbrev letter : List ℕ
letter = 0x41 ∷ []

letter_bytes : IsBytes letter
unfolding zeros
letter_bytes = set_bytes (zeros 1) 0 0x41 (bytes_zeros 1) (omega arith)

abbrev fresh : List ℕ
fresh = (format (zeros 128) 1).block

first_edition : valid_edition 1 ≡ true
unfolding valid_edition
first_edition = refl

sized : bad_new_size 1 (zeros 128) ≡ false
unfolding trailer_cells bad_length zeros
sized = refl

formats : (format (zeros 128) 1).answer ≡ 0
formats = format_done 1 (zeros 128) first_edition sized

abbrev insert_one : Call
insert_one = inserting letter 0

abbrev then_snapshot : List Call
then_snapshot = insert_one ∷ snapshotting 1 ∷ []

abbrev then_restore : List Call
then_restore = snapshotting 1 ∷ insert_one ∷ restoring 1 ∷ []

abbrev then_remove : List Call
then_remove = insert_one ∷ removing letter ∷ []

-- always no: formatting must answer 0
pub always_no_refuted : (number : ℕ) → number ≢ 0 → Demand3 (always_no number) → ⊥
unfolding always_no
always_no_refuted number other d = other ((d.formats 1 (zeros 128)).done.given (first_edition, sized))

-- always no once formatted: 7 needs a full block, and any other answer to a good key and value is the ledger's 0
insert_fits : cells_free fresh < cells_to_insert fresh letter → ⊥
unfolding calls_open
insert_fits more = omega (arith, more)

ledger_zero : (number : ℕ) → number ≢ 7 → ledger_answers (slots (layout_of fresh)) empty_ledger (fed_by (only_formats number) fresh (insert_one ∷ [])) ≡ 0 ∷ []
unfolding ledger_answers fed_by only_formats outcome got_no_room note_call note_insert bad_new_key bad_key over_long bad_value
ledger_zero number other = rw (ne_eqb number 7 other)

answers_number : (number : ℕ) → answers_of (only_formats number) fresh (insert_one ∷ []) ≡ number ∷ []
unfolding answers_of only_formats outcome
answers_number number = refl

pub only_formats_refuted : (number : ℕ) → number ≢ 0 → Demand3 (only_formats number) → ⊥
unfolding only_formats outcome run
only_formats_refuted number other d = elim (ℕ_discrete number 7) [
  | yes e ↦ insert_fits ((d.at_call 1 (zeros 128) formats [] insert_one [] (letter_bytes, tt)).kind.lacks e).more
  | no n ↦
      let same = sym (answers_number number) ∙ (d.after_list 1 (zeros 128) formats (insert_one ∷ []) (letter_bytes, tt)).answers ∙ ledger_zero number n in
      other (ap (λ (l : List ℕ). get_or l 0 0) same)
]

-- what an equation over a list of calls and the ledger beside it unfolds
lists_open : Unit {0}
unfolding calls_open snapshots_open same_key assign outcome run ledger_slot note_insert note_remove note_snapshot note_held note_restore note_call ledger_after got_no_room fed_by
lists_open = tt

-- inserting nothing: the ledger has the key, the block does not show it
nothing_inserted :
    (shown (run inserts_nothing fresh (insert_one ∷ [])) letter ≡ none)
    × ((ledger_beside inserts_nothing fresh (insert_one ∷ [])).present letter ≡ some 0)
unfolding lists_open inserts_nothing
nothing_inserted = (refl, refl)

pub inserts_nothing_refuted : Demand3 inserts_nothing → ⊥
unfolding inserts_nothing
inserts_nothing_refuted d =
    never (sym nothing_inserted.0 ∙ (d.after_list 1 (zeros 128) formats (insert_one ∷ []) (letter_bytes, tt)).agrees.present letter ∙ nothing_inserted.1)

-- a snapshot that stores no root: the ledger's slot has the key, the block's slot does not show it
no_root_stored :
    ((ledger_beside stores_no_root fresh then_snapshot).held 1 ≡ some (update empty_table letter 0))
    × (slot_shown (run stores_no_root fresh then_snapshot) 1 letter ≡ none)
    × (update empty_table letter 0 letter ≡ some 0)
    × (valid_slot (layout_of (run stores_no_root fresh then_snapshot)) 1 ≡ true)
unfolding lists_open rootless_block stores_no_root
no_root_stored = (refl, refl, refl, refl)

pub stores_no_root_refuted : Demand3 stores_no_root → ⊥
unfolding stores_no_root
stores_no_root_refuted d =
    let slot = (d.after_list 1 (zeros 128) formats then_snapshot (letter_bytes, (tt, tt))).agrees.held 1 no_root_stored.3 in
    never (sym no_root_stored.1 ∙ slot.shows (update empty_table letter 0) no_root_stored.0 letter ∙ no_root_stored.2)

-- a restore that alters nothing: the ledger's present table is empty again, the block still shows the key
nothing_restored :
    ((ledger_beside restores_nothing fresh then_restore).present letter ≡ none)
    × (shown (run restores_nothing fresh then_restore) letter ≡ some 0)
unfolding lists_open restores_nothing
nothing_restored = (refl, refl)

pub restores_nothing_refuted : Demand3 restores_nothing → ⊥
unfolding restores_nothing
restores_nothing_refuted d =
    never (sym nothing_restored.0 ∙ sym ((d.after_list 1 (zeros 128) formats then_restore (tt, (letter_bytes, (tt, tt)))).agrees.present letter) ∙ nothing_restored.1)

-- an invented count: the build lays down one cell, and two are counted
count_invented :
    ((outcome invents_count fresh insert_one).answer ≡ 0)
    × ((outcome invents_count fresh insert_one).count ≡ 2)
    × (length (block_build fresh letter 0).cells ≡ 1)
unfolding lists_open invents_count
count_invented = (refl, refl, refl)

pub invents_count_refuted : Demand3 invents_count → ⊥
unfolding invents_count run
invents_count_refuted d =
    let laid = (d.at_call 1 (zeros 128) formats [] insert_one [] (letter_bytes, tt)).kind.laid count_invented.0 in
    omega (arith, laid.counted, count_invented.1, count_invented.2)

-- a snapshot that writes cell 0: the cell is none of the trailer's, and its first byte was 0
cell_zero_written :
    ((outcome writes_cell_zero fresh (snapshotting 1)).answer ≡ 0)
    × (is_trailer (layout_of fresh) 0 ≡ false)
    × (get_or (memory_of (outcome writes_cell_zero fresh (snapshotting 1)).block 0) 0 0 ≡ 0xFF)
    × (get_or (memory_of fresh 0) 0 0 ≡ 0)
unfolding lists_open is_trailer writes_cell_zero
cell_zero_written = (refl, refl, refl, refl)

pub writes_cell_zero_refuted : Demand3 writes_cell_zero → ⊥
unfolding writes_cell_zero run
writes_cell_zero_refuted d =
    let kept = ((d.at_call 1 (zeros 128) formats [] (snapshotting 1) [] (tt, tt)).kind cell_zero_written.0).cells 0 cell_zero_written.1 in
    omega (arith, ap (λ (l : List ℕ). get_or l 0 0) kept, cell_zero_written.2, cell_zero_written.3)

-- a restore by a copy: the block is sound and shows the key with the value of the slot, and the root is another one
abbrev fresh_eight : List ℕ
fresh_eight = (format (zeros 256) 1).block

eight_sized : bad_new_size 1 (zeros 256) ≡ false
unfolding trailer_cells bad_length zeros
eight_sized = refl

abbrev before_copy : List Call
before_copy = insert_one ∷ snapshotting 1 ∷ inserting letter 1 ∷ []

abbrev copied : Outcome
copied = outcome restores_by_copy (run restores_by_copy fresh_eight before_copy) (restoring 1)

restored_by_copy :
    (copied.answer ≡ 0)
    × (root_word (layout_of (run restores_by_copy fresh_eight before_copy)) copied.block ≡ 0x7B)
    × (slot_word (layout_of (run restores_by_copy fresh_eight before_copy)) (run restores_by_copy fresh_eight before_copy) 1 ≡ 0x3B)
    × (sound copied.block ≡ true)
    × (shown copied.block letter ≡ some 0)
unfolding lists_open copied_into restores_by_copy
restored_by_copy = (refl, refl, refl, refl, refl)

pub restores_by_copy_refuted : Demand3 restores_by_copy → ⊥
unfolding restores_by_copy
restores_by_copy_refuted d =
    let root =
    ((d.at_call 1 (zeros 256) (format_done 1 (zeros 256) first_edition eight_sized) before_copy (restoring 1) [] (letter_bytes, (tt, (letter_bytes, (tt, tt))))
    ).kind restored_by_copy.0).root in
    omega (arith, root, restored_by_copy.1, restored_by_copy.2)

-- removing nothing: the ledger has struck the key out, the block still shows it
nothing_removed :
    ((ledger_beside removes_nothing fresh then_remove).present letter ≡ none)
    × (shown (run removes_nothing fresh then_remove) letter ≡ some 0)
unfolding lists_open removes_nothing
nothing_removed = (refl, refl)

pub removes_nothing_refuted : Demand3 removes_nothing → ⊥
unfolding removes_nothing
removes_nothing_refuted d =
    never (sym nothing_removed.0 ∙ sym ((d.after_list 1 (zeros 128) formats then_remove (letter_bytes, (letter_bytes, tt))).agrees.present letter) ∙ nothing_removed.1)

-- a removal that counts one cell too many: the last key leaves no cell, and one is counted
removal_overcounted :
    ((outcome overcounts_removals (run overcounts_removals fresh (insert_one ∷ [])) (removing letter)).answer ≡ 0)
    × ((outcome overcounts_removals (run overcounts_removals fresh (insert_one ∷ [])) (removing letter)).count ≡ 1)
    × (length (block_removal (run overcounts_removals fresh (insert_one ∷ [])) letter).cells ≡ 0)
unfolding lists_open overcounts_removals
removal_overcounted = (refl, refl, refl)

pub overcounts_removals_refuted : Demand3 overcounts_removals → ⊥
unfolding overcounts_removals
overcounts_removals_refuted d =
    let laid = (d.at_call 1 (zeros 128) formats (insert_one ∷ []) (removing letter) [] (letter_bytes, (letter_bytes, tt))).kind.laid removal_overcounted.0 in
    omega (arith, laid.counted, removal_overcounted.1, removal_overcounted.2)

-- a removal that always answers 11: the ledger has the key and answers 0
always_eleven :
    (answers_of always_missing fresh then_remove ≡ 0 ∷ 11 ∷ [])
    × (ledger_answers (slots (layout_of fresh)) empty_ledger (fed_by always_missing fresh then_remove) ≡ 0 ∷ 0 ∷ [])
unfolding lists_open answers_of ledger_answers always_missing
always_eleven = (refl, refl)

pub always_missing_refuted : Demand3 always_missing → ⊥
unfolding always_missing
always_missing_refuted d =
    let same = sym always_eleven.0 ∙ (d.after_list 1 (zeros 128) formats then_remove (letter_bytes, (letter_bytes, tt))).answers ∙ always_eleven.1 in
    omega (arith, ap (λ (l : List ℕ). get_or l 1 0) same)
