-- What the code's answers mean, by cases: the answer numbers and values of 01.
use Rattle.std.specs.Prelude.{◌≡◌, refl, List, [], ◌∷◌, map, ℕ, Result, Ok, Err}
use Rattle.blocks.specs.declared.answer.Refusal.{Refusal}
use Rattle.blocks.specs.declared.answer.Refusal.TheVariants.{BadSize, Unsound, BadKey, BadValue, BadSlot, SlotNotInUse, NoRoom, BadSheet, BadReading, BadToday, Missing, HeldNoDate, Expired, OutsideGate, ShortBuffer}
use Rattle.blocks.specs.declared.answer.NextKey.{NextKey}
use Rattle.blocks.specs.Refusal.{Changed, Counted}
use Rattle.blocks.specs.Read.{Found, Next, padded}

-- 01's table, "When the answer is no", and 02, 5: "new answer 15"
abbrev pub refusal_number : Refusal → ℕ
refusal_number BadSize = 1
refusal_number Unsound = 2
refusal_number BadKey = 3
refusal_number BadValue = 4
refusal_number BadSlot = 5
refusal_number SlotNotInUse = 6
refusal_number NoRoom = 7
refusal_number BadSheet = 8
refusal_number BadReading = 9
refusal_number BadToday = 10
refusal_number Missing = 11
refusal_number HeldNoDate = 12
refusal_number Expired = 13
refusal_number OutsideGate = 14
refusal_number ShortBuffer = 15

-- 01: "0", "done", whatever the call gives then
abbrev pub answer_number : {Given : Type 0} → Result Given Refusal → ℕ
answer_number (Ok given) = 0
answer_number (Err refusal) = refusal_number refusal

-- 01: "0", "done"
abbrev pub change_number : Result Unit Refusal → ℕ
change_number (Ok done) = 0
change_number (Err refusal) = refusal_number refusal

-- the answer of a call that changes a block, with the block that it leaves
abbrev pub changed_outcome : Result Unit Refusal → List ℕ → Changed
changed_outcome answer block = record { answer = change_number answer; block = block }

-- the same of an answer that counts cells
abbrev pub count_number : Result ℕ Refusal → ℕ
count_number (Ok count) = 0
count_number (Err refusal) = refusal_number refusal

-- 01: "The answer counts the cells taken." and "A no returns zeros beside its number"
abbrev pub counted_outcome : Result ℕ Refusal → List ℕ → Counted
counted_outcome (Ok count) block = record { answer = 0; count = count; block = block }
counted_outcome (Err refusal) block = record { answer = refusal_number refusal; count = 0; block = block }

-- 01: "A no returns zeros beside its number": the value is 0 then
abbrev pub found_outcome : Result ℕ Refusal → Found
found_outcome (Ok value) = record { answer = 0; value = value }
found_outcome (Err refusal) = record { answer = refusal_number refusal; value = 0 }

-- 01: "A no returns zeros beside its number"
abbrev pub refused_next : ℕ → Next
refused_next number = record { answer = number; size = 0; key = padded [] }

-- the answer of the next key
abbrev pub next_outcome : Result NextKey Refusal → Next
next_outcome (Ok next) = record { answer = 0; size = next.size; key = next.key }
next_outcome (Err refusal) = refused_next (refusal_number refusal)

-- 01's table, "When the answer is no", top to bottom, and 02, 5: "new answer 15"
pub answer_numbers :
    map refusal_number
    (BadSize ∷ Unsound ∷ BadKey ∷ BadValue ∷ BadSlot ∷ SlotNotInUse ∷ NoRoom ∷ BadSheet ∷ BadReading ∷ BadToday ∷ Missing ∷ HeldNoDate ∷ Expired ∷ OutsideGate ∷ ShortBuffer ∷ [])
    ≡ (1 ∷ 2 ∷ 3 ∷ 4 ∷ 5 ∷ 6 ∷ 7 ∷ 8 ∷ 9 ∷ 10 ∷ 11 ∷ 12 ∷ 13 ∷ 14 ∷ 15 ∷ [])
answer_numbers = refl
