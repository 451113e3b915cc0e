-- How often a number stands in a list: what is said of cells visited, allocated and free is said by counting them.
use Rattle.std.specs.Prelude.{◌≡◌, refl, Bool, true, false, ◌&&◌, cond, List, [], ◌∷◌, map, ℕ, zero, suc, ◌+◌, leb, ltb, eqb}

-- how often a number stands in a list
unfoldable pub occurrences : ℕ → List ℕ → ℕ
occurrences c [] = 0
occurrences c (x ∷ xs) = cond (eqb c x) 1 0 + occurrences c xs

-- a test of every element
unfoldable pub all : {A : Type 0} → (A → Bool) → List A → Bool
all test [] = true
all test (x ∷ xs) = test x && all test xs

-- no number stands in the list twice
unfoldable pub distinct : List ℕ → Bool
distinct cells = all (λ c. leb (occurrences c cells) 1) cells

-- the elements that pass a test, in their order
unfoldable pub select : {A : Type 0} → (A → Bool) → List A → List A
select test [] = []
select test (x ∷ xs) = let rest = select test xs in cond (test x) (x ∷ rest) rest

-- so many numbers from one on
unfoldable pub count_up : ℕ → ℕ → List ℕ
count_up zero from = []
count_up (suc count) from = from ∷ count_up count (from + 1)

-- how often each of some numbers stands in a list, for the computed examples
abbrev pub tallied : List ℕ → List ℕ → List ℕ
tallied numbers list = map (λ c. occurrences c list) numbers

-- how often 0, 1, 2 and 3 stand in a list
pub counted : ◌≡◌ {A = List ℕ} (tallied (0 ∷ 1 ∷ 2 ∷ 3 ∷ []) (2 ∷ 1 ∷ 2 ∷ 3 ∷ 2 ∷ [])) (0 ∷ 1 ∷ 3 ∷ 1 ∷ [])
unfolding occurrences
counted = refl

-- no cell, three cells, one of them twice: the neighbours, the first and the last
pub distinct_cells :
    ◌≡◌ {A = List Bool}
    (map distinct ([] ∷ (2 ∷ 1 ∷ 3 ∷ []) ∷ (1 ∷ 2 ∷ 2 ∷ []) ∷ (2 ∷ 1 ∷ 2 ∷ []) ∷ []))
    (true ∷ true ∷ false ∷ false ∷ [])
unfolding occurrences all distinct
distinct_cells = refl

-- the numbers below 3, in their order
pub selected : ◌≡◌ {A = List ℕ} (select (λ x. ltb x 3) (4 ∷ 2 ∷ 3 ∷ 1 ∷ 2 ∷ [])) (2 ∷ 1 ∷ 2 ∷ [])
unfolding select
selected = refl

-- whether all numbers of a list are below 3
pub all_below :
    ◌≡◌ {A = List Bool}
    (map (all (λ x. ltb x 3)) ([] ∷ (2 ∷ 1 ∷ []) ∷ (3 ∷ 1 ∷ []) ∷ (1 ∷ 3 ∷ []) ∷ []))
    (true ∷ true ∷ false ∷ false ∷ [])
unfolding all
all_below = refl

-- four numbers from 3 on, and none
pub counted_up : ◌≡◌ {A = List (List ℕ)} (count_up 4 3 ∷ count_up 0 3 ∷ []) ((3 ∷ 4 ∷ 5 ∷ 6 ∷ []) ∷ [] ∷ [])
unfolding count_up
counted_up = refl
