-- Write lists of small blocks, computed: the answers, and every record of each list. The blocks that the driver's stores leave stand in
-- `DrivenExamples`.
use Rattle.std.specs.Prelude.{◌≡◌, refl, List, [], ◌∷◌, ◌++◌, map, ℕ, ◌+◌, replicate, Ok, Err}
use Rattle.cells.specs.Bytes.{zeros}
use Rattle.nodes.specs.Written.{words, eight_words, chain_bytes}
use Rattle.blocks.specs.declared.answer.Refusal.TheVariants.{ShortBuffer}
use Rattle.write_lists.specs.WriteList.{WriteList, write_list}
use Rattle.write_lists.specs.Answers.{list_outcome}
use Rattle.write_lists.specs.Computing.{lists_open}

-- a list buffer of so many bytes EE
abbrev lent : ℕ → List ℕ
lent size = replicate size 0xEE

-- a list that is written, by its records and the buffer
abbrev done : ℕ → List ℕ → WriteList
done records list = record { answer = 0; records = records; list = list }

-- one that is refused, by its number and the buffer
abbrev refused_with : ℕ → List ℕ → WriteList
refused_with number list = record { answer = number; records = 0; list = list }

-- what the code's answer means: "The answer counts the records", and "on every no" the number with no records
pub outcomes :
    ◌≡◌ {A = List WriteList}
    (list_outcome (Ok 9) (lent 3) ∷ list_outcome (Err ShortBuffer) (lent 3) ∷ [])
    (done 9 (0xEE ∷ 0xEE ∷ 0xEE ∷ []) ∷ refused_with 15 (0xEE ∷ 0xEE ∷ 0xEE ∷ []) ∷ [])
outcomes = refl

-- a block of eight cells in edition 1, by its cells 1 and 2 and its root word; no slot is in use
abbrev pub eight_cells : List ℕ → List ℕ → ℕ → List ℕ
eight_cells one two root = zeros 32 ++ one ++ two ++ zeros 128 ++ eight_words root 0 0 0 0x00000000 0x00000008 0x00000000 0x00000001

-- 01: "E: fresh 8, enter 43 48 41 value 0: root 00000039."
abbrev pub block_e : List ℕ
block_e = eight_cells (chain_bytes 0x00434841 0xFFFFFFFF) (zeros 32) 0x00000039

-- E, 41 with 1: cell 2 as 01's sample F has it, then the root word
abbrev pub list_of_41 : List ℕ
list_of_41 =
    words
    (0x00000040 ∷ 0xFFFFFFFE
    ∷ 0x00000044 ∷ 0x0000003A
    ∷ 0x00000048 ∷ 0x00000000
    ∷ 0x0000004C ∷ 0x00000000
    ∷ 0x00000050 ∷ 0x00000000
    ∷ 0x00000054 ∷ 0x00000000
    ∷ 0x00000058 ∷ 0x41430000
    ∷ 0x0000005C ∷ 0x00000006
    ∷ 0x000000E0 ∷ 0x0000005E
    ∷ [])

-- 02, 6: "Bytes past the list aren't touched", "A list buffer shorter than 8 bytes for each record is answer 15": in 80 bytes, 72 and 71
pub list_of_41_lem :
    ◌≡◌ {A = List WriteList}
    (map (λ size. write_list block_e (0x41 ∷ []) 1 (lent size)) (80 ∷ 72 ∷ 71 ∷ []))
    (done 9 (list_of_41 ++ (0xEE ∷ 0xEE ∷ 0xEE ∷ 0xEE ∷ 0xEE ∷ 0xEE ∷ 0xEE ∷ 0xEE ∷ [])) ∷ done 9 list_of_41 ∷ refused_with 15 (lent 71) ∷ [])
unfolding lists_open
list_of_41_lem = refl

-- the records of a cell's eight words, the first at a byte position
abbrev pub cell_records : ℕ → ℕ → ℕ → ℕ → ℕ → ℕ → ℕ → ℕ → ℕ → List ℕ
cell_records at a b c d e f g h =
    words (at ∷ a ∷ (at + 4) ∷ b ∷ (at + 8) ∷ c ∷ (at + 12) ∷ d ∷ (at + 16) ∷ e ∷ (at + 20) ∷ f ∷ (at + 24) ∷ g ∷ (at + 28) ∷ h ∷ [])

-- 02, 6: "The answer counts the records: 8 for each cell taken, plus 1.": E, 43 with 5: the cells 2 and 3, then the root word; in 137 bytes and 135
pub list_of_43_lem :
    ◌≡◌ {A = List WriteList}
    (map (λ size. write_list block_e (0x43 ∷ []) 5 (lent size)) (137 ∷ 135 ∷ []))
    (done 17
    (cell_records 0x00000040 0x00000005 0xFF000000 0 0 0 0 0 0x0000003A
    ++ cell_records 0x00000060 0 0 0 0 0 0 0x00000043 0x0000005F
    ++ words (0x000000E0 ∷ 0x0000007B ∷ [])
    ++ (0xEE ∷ []))
    ∷ refused_with 15 (lent 135)
    ∷ [])
unfolding lists_open
list_of_43_lem = refl

-- a block of four cells: 41 with 0 (1), held by slot 1, and 41 with 1 (2), the root: no cell is free
abbrev full : ℕ → List ℕ
full edition =
    zeros 32
    ++ chain_bytes 0x00000041 0xFFFFFFFF
    ++ chain_bytes 0x00000041 0xFFFFFFFE
    ++ eight_words 0x0000005B 0x0000003B 0 0 0x01000000 0x00000004 0x00000000 edition

-- to a buffer: 129 bytes, of an edition that there is none of; that edition; an empty key; a value over 2,147,483,647; no room
abbrev refused_lists : List ℕ → List WriteList
refused_lists list =
    write_list (full 3 ++ (0x00 ∷ [])) [] 2147483648 list
    ∷ write_list (full 3) [] 2147483648 list
    ∷ write_list (full 1) [] 2147483648 list
    ∷ write_list (full 1) (0x41 ∷ []) 2147483648 list
    ∷ write_list (full 1) (0x41 ∷ []) 2147483647 list
    ∷ []

-- 02, 6: "is answer 15, checked after 7", "on every no both blocks stay": no bytes and 71, too few for any list, then 72
pub refused :
    ◌≡◌ {A = List (List WriteList)}
    ((refused_lists [] ++ (write_list block_e (0x41 ∷ []) 1 [] ∷ [])) ∷ refused_lists (lent 71) ∷ refused_lists (lent 72) ∷ [])
    ((refused_with 1 [] ∷ refused_with 2 [] ∷ refused_with 3 [] ∷ refused_with 4 [] ∷ refused_with 7 [] ∷ refused_with 15 [] ∷ [])
    ∷ map (λ number. refused_with number (lent 71)) (1 ∷ 2 ∷ 3 ∷ 4 ∷ 7 ∷ [])
    ∷ map (λ number. refused_with number (lent 72)) (1 ∷ 2 ∷ 3 ∷ 4 ∷ 7 ∷ [])
    ∷ [])
unfolding lists_open
refused = refl

-- 02, 6: "Cells come in the order taken, eight words each": 43 48 41 with 0 into fresh 8, three characters in one cell, which comes once as E has it
pub list_of_run :
    ◌≡◌ {A = WriteList}
    (write_list (eight_cells (zeros 32) (zeros 32) 0x00000000) (0x43 ∷ 0x48 ∷ 0x41 ∷ []) 0 (lent 72))
    (done 9 (cell_records 0x00000020 0 0 0 0 0 0 0x00434841 0xFFFFFFFF ++ words (0x000000E0 ∷ 0x00000039 ∷ [])))
unfolding lists_open
list_of_run = refl

-- the same key in cell 5 of eight, the last but one that is usable
abbrev run_in_five : List ℕ
run_in_five = zeros 160 ++ chain_bytes 0x00434841 0xFFFFFFFF ++ zeros 32 ++ eight_words 0x000000B9 0 0 0 0x00000000 0x00000008 0x00000000 0x00000001

-- 02, 6: "Cells come in the order taken", which is not always that of their numbers; 02, 7: "wrapping from the last usable cell to cell 1": 43 with 5
-- takes cell 6 and then cell 1
pub list_that_wraps :
    ◌≡◌ {A = WriteList}
    (write_list run_in_five (0x43 ∷ []) 5 (lent 136))
    (done 17
    (cell_records 0x000000C0 0x00000005 0xFF000000 0 0 0 0 0 0x000000BA
    ++ cell_records 0x00000020 0 0 0 0 0 0 0x00000043 0x000000DF
    ++ words (0x000000E0 ∷ 0x0000003B ∷ [])))
unfolding lists_open
list_that_wraps = refl

-- a block of five cells in edition 2: 43 with 5 (1)
abbrev edition_two : List ℕ
edition_two =
    zeros 32
    ++ chain_bytes 0x00000043 0xFFFFFFFA
    ++ zeros 64
    ++ eight_words 0x0000003B 0 0 0 0x00000000 0x00000005 0x00000000 0x00000002

-- the same where a cell's chain is written before the value embedded in it: 43 48 41 with 0 into that block
pub list_of_embedded :
    ◌≡◌ {A = WriteList}
    (write_list edition_two (0x43 ∷ 0x48 ∷ 0x41 ∷ []) 0 (lent 136))
    (done 17
    (cell_records 0x00000040 0x00000005 0x1A000000 0 0 0 0 0x00004841 0xFFFFFFFF
    ++ cell_records 0x00000060 0 0 0 0 0 0 0x00000043 0x0000005F
    ++ words (0x00000080 ∷ 0x0000007B ∷ [])))
unfolding lists_open
list_of_embedded = refl
