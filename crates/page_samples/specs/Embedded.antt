-- Pages of a block of edition 2, computed. 02, 3: "We want it read".
use Rattle.std.specs.Prelude.{◌≡◌, refl, false, List, [], ◌∷◌, ◌++◌, map, ℕ}
use Rattle.store.specs.Insert.{insert}
use Rattle.store.specs.Computing.{calls_open}
use Rattle.pages.specs.Page.{Page, page}
use Rattle.pages.specs.Examples.{done}
use Rattle.pages.specs.Computing.{pages_open}
use Rattle.samples.specs.Calls.{fresh_in}
use Rattle.page_samples.specs.Pinned.{lent}

-- 43 with 5, then 43 48 41 with the greatest value: the value of 43 is embedded, as `run_below_value` of the samples shows
abbrev run_below : List ℕ
run_below = (insert (insert (fresh_in 2 8) (0x43 ∷ []) 5).block (0x43 ∷ 0x48 ∷ 0x41 ∷ []) 2147483647).block

-- the same with 43 48 with 7, which has a prefix of its own
abbrev both_kinds : List ℕ
both_kinds = (insert run_below (0x43 ∷ 0x48 ∷ []) 7).block

-- the record of 43
abbrev record43 : List ℕ
record43 = 0x01 ∷ 0x43 ∷ 0x00 ∷ 0x00 ∷ 0x00 ∷ 0x05 ∷ []

-- of 43 48
abbrev record4348 : List ℕ
record4348 = 0x02 ∷ 0x43 ∷ 0x48 ∷ 0x00 ∷ 0x00 ∷ 0x00 ∷ 0x07 ∷ []

-- of 43 48 41
abbrev record434841 : List ℕ
record434841 = 0x03 ∷ 0x43 ∷ 0x48 ∷ 0x41 ∷ 0x7F ∷ 0xFF ∷ 0xFF ∷ 0xFF ∷ []

-- 01: "a label before its extensions": from the empty label, after 43, after 43 48
pub embedded_printed :
    ◌≡◌ {A = List Page}
    (page run_below [] (lent 53) ∷ map (λ key. page both_kinds key (lent 53)) ([] ∷ (0x43 ∷ []) ∷ (0x43 ∷ 0x48 ∷ []) ∷ []))
    (done 2 14 false (record43 ++ record434841 ++ lent 39)
    ∷ done 3 21 false (record43 ++ record4348 ++ record434841 ++ lent 32)
    ∷ done 2 15 false (record4348 ++ record434841 ++ lent 38)
    ∷ done 1 8 false (record434841 ++ lent 45)
    ∷ [])
unfolding calls_open pages_open fresh_in
embedded_printed = refl
