-- Blocks between the stores of a write list, computed: their bytes, and what is read from them.
use Rattle.std.specs.Prelude.{◌≡◌, refl, List, [], ◌∷◌, ◌++◌, map, ℕ, replicate}
use Rattle.std.proofs.Math.Option.{Option, none, some}
use Rattle.cells.specs.Bytes.{zeros}
use Rattle.nodes.specs.Written.{words, eight_words, chain_bytes}
use Rattle.blocks.specs.Refusal.{Counted}
use Rattle.blocks.specs.Read.{validate, get}
use Rattle.blocks.specs.After.{slot_shown}
use Rattle.store.specs.Insert.{insert}
use Rattle.write_lists.specs.WriteList.{WriteList, write_list}
use Rattle.write_lists.specs.Driven.{driven}
use Rattle.write_lists.specs.Computing.{lists_open}
use Rattle.write_lists.specs.Examples.{eight_cells, block_e, list_of_41, cell_records}

-- E's block with other words in cell 2 and another root word
abbrev after : ℕ → ℕ → ℕ → ℕ → ℕ → List ℕ
after first second seventh eighth root = eight_cells (chain_bytes 0x00434841 0xFFFFFFFF) (eight_words first second 0 0 0 0 seventh eighth) root

-- E with 41 of 1 entered: cell 2 and the root as 01's sample F gives them
abbrev entered : List ℕ
entered = after 0xFFFFFFFE 0x0000003A 0x41430000 0x00000006 0x0000005E

-- 02, 6: "The driver makes one store at a time.": E after none, 1, 3, 8 and 9 of the list of 41 with 1
pub stores_of_41 :
    ◌≡◌ {A = List (List ℕ)}
    (map (driven block_e list_of_41) (0 ∷ 1 ∷ 3 ∷ 8 ∷ 9 ∷ []))
    (after 0x00000000 0x00000000 0x00000000 0x00000000 0x00000039
    ∷ after 0xFFFFFFFE 0x00000000 0x00000000 0x00000000 0x00000039
    ∷ after 0xFFFFFFFE 0x0000003A 0x00000000 0x00000000 0x00000039
    ∷ after 0xFFFFFFFE 0x0000003A 0x41430000 0x00000006 0x00000039
    ∷ after 0xFFFFFFFE 0x0000003A 0x41430000 0x00000006 0x0000005E
    ∷ [])
unfolding lists_open
stores_of_41 = refl

-- an insertion that is done, by the cells taken and the block
abbrev done : ℕ → List ℕ → Counted
done count block = record { answer = 0; count = count; block = block }

-- 02, 6: "After the last it is byte for byte what entering gives."
pub inserted_41 : ◌≡◌ {A = Counted} (insert block_e (0x41 ∷ []) 1) (done 1 entered)
unfolding lists_open
inserted_41 = refl

-- validation, then look-up of a key and of 43 48 41, an answer and a value each
abbrev reads : List ℕ → List ℕ → List ℕ
reads key block =
    validate block
    ∷ (get block key).answer
    ∷ (get block key).value
    ∷ (get block (0x43 ∷ 0x48 ∷ 0x41 ∷ [])).answer
    ∷ (get block (0x43 ∷ 0x48 ∷ 0x41 ∷ [])).value
    ∷ []

-- 02, 6: "After any first part short of the last store, the book is sound and shows the old table": E after 0 to 9 stores, 41 and 43 48 41
pub cuts_of_41 :
    ◌≡◌ {A = List (List ℕ)}
    (map (λ count. reads (0x41 ∷ []) (driven block_e list_of_41 count)) (0 ∷ 1 ∷ 2 ∷ 3 ∷ 4 ∷ 5 ∷ 6 ∷ 7 ∷ 8 ∷ 9 ∷ []))
    ((0 ∷ 11 ∷ 0 ∷ 0 ∷ 0 ∷ [])
    ∷ (0 ∷ 11 ∷ 0 ∷ 0 ∷ 0 ∷ [])
    ∷ (0 ∷ 11 ∷ 0 ∷ 0 ∷ 0 ∷ [])
    ∷ (0 ∷ 11 ∷ 0 ∷ 0 ∷ 0 ∷ [])
    ∷ (0 ∷ 11 ∷ 0 ∷ 0 ∷ 0 ∷ [])
    ∷ (0 ∷ 11 ∷ 0 ∷ 0 ∷ 0 ∷ [])
    ∷ (0 ∷ 11 ∷ 0 ∷ 0 ∷ 0 ∷ [])
    ∷ (0 ∷ 11 ∷ 0 ∷ 0 ∷ 0 ∷ [])
    ∷ (0 ∷ 11 ∷ 0 ∷ 0 ∷ 0 ∷ [])
    ∷ (0 ∷ 0 ∷ 1 ∷ 0 ∷ 0 ∷ [])
    ∷ [])
unfolding lists_open
cuts_of_41 = refl

-- 02, 6: "Power drops while an entry is being stored.": after 3 stores, entering 41 with 1 again leaves the same block, and has the same list
pub retried :
    (◌≡◌ {A = Counted} (insert (driven block_e list_of_41 3) (0x41 ∷ []) 1) (done 1 entered))
    × (◌≡◌ {A = WriteList}
    (write_list (driven block_e list_of_41 3) (0x41 ∷ []) 1 (replicate 72 0xEE))
    (record { answer = 0; records = 9; list = list_of_41 }))
unfolding lists_open
retried = (refl, refl)

-- E with 41 of 7 in cell 3, which slot 2 holds, bytes A5 in the free cells 2, 4, 5 and 6: by the cells 2 and 4 and the root word
abbrev slotted : List ℕ → List ℕ → ℕ → List ℕ
slotted two four root =
    zeros 32
    ++ chain_bytes 0x00434841 0xFFFFFFFF
    ++ two
    ++ chain_bytes 0x00000041 0xFFFFFFF8
    ++ four
    ++ replicate 64 0xA5
    ++ eight_words root 0 0x0000007B 0 0x02000000 0x00000008 0x00000000 0x00000001

-- the block before any store
abbrev held : List ℕ
held = slotted (replicate 32 0xA5) (replicate 32 0xA5) 0x00000039

-- the list of 43 with 5 for it: the cells 2 and 4, then the root word
abbrev list_of_43 : List ℕ
list_of_43 =
    cell_records 0x00000040 0x00000005 0xFF000000 0 0 0 0 0 0x0000003A
    ++ cell_records 0x00000080 0 0 0 0 0 0 0x00000043 0x0000005F
    ++ words (0x000000E0 ∷ 0x0000009B ∷ [])

-- 02, 6: "Cells come in the order taken": a cell that a slot holds is not among them
pub list_around_slot :
    ◌≡◌ {A = WriteList}
    (write_list held (0x43 ∷ []) 5 (replicate 136 0xEE))
    (record { answer = 0; records = 17; list = list_of_43 })
unfolding lists_open
list_around_slot = refl

-- 02, 6: "The driver makes one store at a time.": the bytes after 1, 9, 16 and 17 of it; no other free cell is touched
pub stores_around_slot :
    ◌≡◌ {A = List (List ℕ)}
    (map (driven held list_of_43) (1 ∷ 9 ∷ 16 ∷ 17 ∷ []))
    (slotted ((0x00 ∷ 0x00 ∷ 0x00 ∷ 0x05 ∷ []) ++ replicate 28 0xA5) (replicate 32 0xA5) 0x00000039
    ∷ slotted (eight_words 0x00000005 0xFF000000 0 0 0 0 0 0x0000003A) ((0x00 ∷ 0x00 ∷ 0x00 ∷ 0x00 ∷ []) ++ replicate 28 0xA5) 0x00000039
    ∷ slotted (eight_words 0x00000005 0xFF000000 0 0 0 0 0 0x0000003A) (eight_words 0 0 0 0 0 0 0x00000043 0x0000005F) 0x00000039
    ∷ slotted (eight_words 0x00000005 0xFF000000 0 0 0 0 0 0x0000003A) (eight_words 0 0 0 0 0 0 0x00000043 0x0000005F) 0x0000009B
    ∷ [])
unfolding lists_open
stores_around_slot = refl

-- 02, 6: "the book is sound and shows the old table, and the marks theirs": after none, 1, 9, 16 and 17 stores, 43 and 43 48 41 at the root
pub cuts_around_slot :
    ◌≡◌ {A = List (List ℕ)}
    (map (λ count. reads (0x43 ∷ []) (driven held list_of_43 count)) (0 ∷ 1 ∷ 9 ∷ 16 ∷ 17 ∷ []))
    ((0 ∷ 11 ∷ 0 ∷ 0 ∷ 0 ∷ [])
    ∷ (0 ∷ 11 ∷ 0 ∷ 0 ∷ 0 ∷ [])
    ∷ (0 ∷ 11 ∷ 0 ∷ 0 ∷ 0 ∷ [])
    ∷ (0 ∷ 11 ∷ 0 ∷ 0 ∷ 0 ∷ [])
    ∷ (0 ∷ 0 ∷ 5 ∷ 0 ∷ 0 ∷ [])
    ∷ [])
unfolding lists_open
cuts_around_slot = refl

-- the same of slot 2: 41, 43 and 43 48 41
pub slot_at_cuts :
    ◌≡◌ {A = List (List (Option ℕ))}
    (map
    (λ count. map (slot_shown (driven held list_of_43 count) 2) ((0x41 ∷ []) ∷ (0x43 ∷ []) ∷ (0x43 ∷ 0x48 ∷ 0x41 ∷ []) ∷ []))
    (0 ∷ 1 ∷ 9 ∷ 16 ∷ 17 ∷ []))
    ((some 7 ∷ none ∷ none ∷ [])
    ∷ (some 7 ∷ none ∷ none ∷ [])
    ∷ (some 7 ∷ none ∷ none ∷ [])
    ∷ (some 7 ∷ none ∷ none ∷ [])
    ∷ (some 7 ∷ none ∷ none ∷ [])
    ∷ [])
unfolding lists_open
slot_at_cuts = refl
