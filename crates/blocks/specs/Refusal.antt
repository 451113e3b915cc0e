-- 01: "The lowest number that applies to the call is given."
use Rattle.std.specs.Prelude.{Bool, ◌||◌, cond, List, [], ◌∷◌, ℕ, ltb, eqb, length}
use Rattle.nodes.specs.Layout.{key_limit}

-- a number of 01's table and whether its situation is there
pub record Refusal : Type 0 where
  pub number : ℕ
  pub applies : Bool

-- a refusal by its number and its situation
abbrev pub refusal : ℕ → Bool → Refusal
refusal number applies = record { number = number; applies = applies }

-- the number of the first that applies, 0 where none does
unfoldable pub first_refusal : List Refusal → ℕ
first_refusal [] = 0
first_refusal (r ∷ rs) = let later = first_refusal rs in cond r.applies r.number later

-- a call's answer number and the block that it leaves
pub record Changed : Type 0 where
  pub answer : ℕ
  pub block : List ℕ

-- the same with the number of cells that the call allocated
pub record Counted : Type 0 where
  pub answer : ℕ
  pub count : ℕ
  pub block : List ℕ

-- 01: "A no returns zeros beside its number and the book stays byte for byte": the new block where nothing is refused
abbrev pub changed_by : List Refusal → List ℕ → List ℕ → Changed
changed_by refusals block new =
    let answer = first_refusal refusals in
    record { answer = answer; block = cond (eqb answer 0) new block }

-- 01, answer 3: "label empty (but not for the next label) or over 48"
unfoldable pub over_long : List ℕ → Bool
over_long key = ltb key_limit (length key)

-- 01, answer 3, where the empty label is refused too
unfoldable pub bad_key : List ℕ → Bool
bad_key key = eqb (length key) 0 || over_long key

-- answer 3 of an insertion
unfoldable pub bad_new_key : List ℕ → Bool
bad_new_key key = bad_key key

-- 01, answer 4: "value over 2,147,483,647"
unfoldable pub bad_value : ℕ → Bool
bad_value value = ltb 2147483647 value
