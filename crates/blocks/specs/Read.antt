-- The calls that only read: validation, look-up, the next key. 01: "A no returns zeros beside its number."
use Rattle.std.specs.Prelude.{Bool, true, false, not, cond, List, [], ◌∷◌, ◌++◌, ℕ, eqb, length, take}
use Rattle.std.proofs.Math.Option.{Option, none, some}
use Rattle.cells.specs.Bytes.{zeros}
use Rattle.cells.specs.Memory.{memory_of}
use Rattle.nodes.specs.Layout.{key_limit}
use Rattle.trees.specs.Lookup.{Table, lookup}
use Rattle.trees.specs.Entries.{Entry, entries, next_entry}
use Rattle.blocks.specs.Trailer.{bad_size, layout_of, root_word}
use Rattle.blocks.specs.Sound.{sound}
use Rattle.blocks.specs.Refusal.{Refusal, refusal, first_refusal, bad_key, over_long}

-- 01, answer 11: "no such .., or no next one": there is nothing
unfoldable pub missing : {A : Type 0} → Option A → Bool
missing none = true
missing (some a) = false

-- 01, answers 1 and 2, which every call but format asks first
abbrev pub block_refusals : List ℕ → List Refusal
block_refusals block = refusal 1 (bad_size block) ∷ refusal 2 (not (sound block)) ∷ []

-- validation of a whole block
unfoldable pub validate : List ℕ → ℕ
validate block = first_refusal (block_refusals block)

-- 01: "The book shows what its root does."
abbrev pub shown : List ℕ → Table
shown block key = lookup (layout_of block) (memory_of block) (root_word (layout_of block) block) key

-- what a look-up answers: the number and the value beside it
pub record Found : Type 0 where
  pub answer : ℕ
  pub value : ℕ

-- the value beside an answer, 0 where there is none
unfoldable pub value_or : Option ℕ → ℕ
value_or none = 0
value_or (some value) = value

-- 01, answer 11: "no such label"
abbrev pub get_refusals : List ℕ → List ℕ → List Refusal
get_refusals block key = block_refusals block ++ (refusal 3 (bad_key key) ∷ refusal 11 (missing (shown block key)) ∷ [])

-- look-up; 01: "A step that finds no child ends a look-up at once with 11."
unfoldable pub get : List ℕ → List ℕ → Found
get block key =
    let answer = first_refusal (get_refusals block key) in
    record { answer = answer; value = cond (eqb answer 0) (value_or (shown block key)) 0 }

-- the pairs that the root shows, in order
abbrev pub shown_entries : List ℕ → List Entry
shown_entries block = entries (layout_of block) (memory_of block) key_limit (root_word (layout_of block) block)

-- what the next key answers: the number, the length and the 48 bytes
pub record Next : Type 0 where
  pub answer : ℕ
  pub size : ℕ
  pub key : List ℕ

-- 01: "The answer holds 48 bytes, zero past the length."
unfoldable pub padded : List ℕ → List ℕ
padded key = take key_limit (key ++ zeros key_limit)

-- the key beside an answer, empty where there is none
unfoldable pub key_or : Option Entry → List ℕ
key_or none = []
key_or (some entry) = entry.key

-- 01, answer 11: "or no next one"
abbrev pub next_refusals : List ℕ → List ℕ → List Refusal
next_refusals block key = block_refusals block ++ (refusal 3 (over_long key) ∷ refusal 11 (missing (next_entry key (shown_entries block))) ∷ [])

-- the next key
unfoldable pub next_key : List ℕ → List ℕ → Next
next_key block key =
    let answer = first_refusal (next_refusals block key) in
    let found = cond (eqb answer 0) (key_or (next_entry key (shown_entries block))) [] in
    record { answer = answer; size = length found; key = padded found }
