-- 01, "When the answer is no", for the calls that only read: each answer exactly under its condition, and what goes with it.
use Rattle.std.specs.Prelude.{◌≡◌, ◌≢◌, ◌⊎◌, ◌↔◌, Bool, true, false, List, ℕ, length}
use Rattle.std.proofs.Math.Option.{none, some}
use Rattle.cells.specs.Bytes.{zeros}
use Rattle.nodes.specs.Layout.{key_limit}
use Rattle.trees.specs.Entries.{key_before}
use Rattle.blocks.specs.Trailer.{bad_size}
use Rattle.blocks.specs.Sound.{sound}
use Rattle.blocks.specs.Refusal.{bad_key, over_long}
use Rattle.blocks.specs.Read.{shown, Found, Next, padded}

-- an answer is k exactly under a condition
pub record Exactly (answer k : ℕ) (Condition : Type 0) : Type 0 where
  pub only : answer ≡ k → Condition
  pub given : Condition → answer ≡ k

-- a block that passes validation: neither 1 nor 2 applies
abbrev pub Passes : List ℕ → Type 0
Passes b = (bad_size b ≡ false) × (sound b ≡ true)

-- none of the answers 1, 2 and 3 applies, where 3 is for a key that is bad
pub record PassesKey (b : List ℕ) (bad : Bool) : Type 0 where
  pub size : bad_size b ≡ false
  pub valid : sound b ≡ true
  pub key : bad ≡ false

-- 01's table for validation
pub record ValidateTable (b : List ℕ) (answer : ℕ) : Type 0 where
  pub on_bad_size : Exactly answer 1 (bad_size b ≡ true)
  pub unsound : Exactly answer 2 ((bad_size b ≡ false) × (sound b ≡ false))
  pub done : Exactly answer 0 (Passes b)

-- 01's table for a look-up
pub record GetTable (b key : List ℕ) (r : Found) : Type 0 where
  pub on_bad_size : Exactly r.answer 1 (bad_size b ≡ true)
  pub unsound : Exactly r.answer 2 ((bad_size b ≡ false) × (sound b ≡ false))
  pub on_bad_key : Exactly r.answer 3 ((bad_size b ≡ false) × ((sound b ≡ true) × (bad_key key ≡ true)))
  pub absent : Exactly r.answer 11 (PassesKey b (bad_key key) × (shown b key ≡ none))
  pub found : (value : ℕ) → r ≡ record { answer = 0; value = value } ↔ PassesKey b (bad_key key) × (shown b key ≡ some value)
  pub zero : r.answer ≢ 0 → r.value ≡ 0

-- 01: "The next label is the least label shown that is greater than a given one"
pub record LeastAbove (b key k : List ℕ) : Type 0 where
  pub above : key_before key k ≡ true
  pub there : shown b k ≢ none
  pub least : (j : List ℕ) → key_before key j ≡ true → shown b j ≢ none → (j ≡ k) ⊎ (key_before k j ≡ true)

-- 01's table for the next key
pub record NextTable (b key : List ℕ) (r : Next) : Type 0 where
  pub on_bad_size : Exactly r.answer 1 (bad_size b ≡ true)
  pub unsound : Exactly r.answer 2 ((bad_size b ≡ false) × (sound b ≡ false))
  pub on_bad_key : Exactly r.answer 3 ((bad_size b ≡ false) × ((sound b ≡ true) × (over_long key ≡ true)))
  pub absent : Exactly r.answer 11 (PassesKey b (over_long key) × ((k : List ℕ) → key_before key k ≡ true → shown b k ≡ none))
  pub found : (k : List ℕ) → r ≡ record { answer = 0; size = length k; key = padded k } ↔ PassesKey b (over_long key) × LeastAbove b key k
  pub zero : r.answer ≢ 0 → (r.size ≡ 0) × (r.key ≡ zeros key_limit)
