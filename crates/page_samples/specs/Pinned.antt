-- Pages of samples of 01, computed.
use Rattle.std.specs.Prelude.{◌≡◌, refl, false, List, [], ◌∷◌, ◌++◌, map, ℕ, replicate}
use Rattle.store.specs.Computing.{calls_open}
use Rattle.snapshots.specs.Computing.{snapshots_open}
use Rattle.pages.specs.Page.{Page, page}
use Rattle.pages.specs.Examples.{done, refused_with}
use Rattle.pages.specs.Computing.{pages_open}
use Rattle.samples.specs.Calls.{fresh_in, fresh, sample_a, sample_b, sample_e, sample_f, sample_g}
use Rattle.samples.specs.Pinned.{split_block}

-- a buffer of so many bytes EE
abbrev pub lent : ℕ → List ℕ
lent size = replicate size 0xEE

-- the record of 43 48 41 with 0
abbrev record434841 : List ℕ
record434841 = 0x03 ∷ 0x43 ∷ 0x48 ∷ 0x41 ∷ 0x00 ∷ 0x00 ∷ 0x00 ∷ 0x00 ∷ []

-- that of 41 with 1
abbrev record41 : List ℕ
record41 = 0x01 ∷ 0x41 ∷ 0x00 ∷ 0x00 ∷ 0x00 ∷ 0x01 ∷ []

-- that of 35 with 2
abbrev record35 : List ℕ
record35 = 0x01 ∷ 0x35 ∷ 0x00 ∷ 0x00 ∷ 0x00 ∷ 0x02 ∷ []

-- 02, 5: "one length byte, the label, the value as a word", "Bytes past those used are untouched.": G from the empty label: 35, 41 and 43 48 41 in
-- order; "A buffer under 53 bytes is new answer 15 .. and stays as it was."
pub all_of_g :
    ◌≡◌ {A = List Page}
    (map (λ size. page sample_g.block [] (lent size)) (53 ∷ 54 ∷ 52 ∷ []))
    (done 3 20 false (record35 ++ record41 ++ record434841 ++ lent 33)
    ∷ done 3 20 false (record35 ++ record41 ++ record434841 ++ lent 34)
    ∷ refused_with 15 (lent 52)
    ∷ [])
unfolding calls_open pages_open fresh_in fresh sample_e sample_f sample_g
all_of_g = refl

-- "A page starts after a given label": after 35; 40, which is none of its labels; 41; 43 48, the beginning of one; "A page with nothing left to
-- write is answer 0 with no records.": after 43 48 41; after 43 48 41 00
pub rest_of_g :
    ◌≡◌ {A = List Page}
    (map (λ key. page sample_g.block key (lent 53))
    ((0x35 ∷ []) ∷ (0x40 ∷ []) ∷ (0x41 ∷ []) ∷ (0x43 ∷ 0x48 ∷ []) ∷ (0x43 ∷ 0x48 ∷ 0x41 ∷ []) ∷ (0x43 ∷ 0x48 ∷ 0x41 ∷ 0x00 ∷ []) ∷ []))
    (done 2 14 false (record41 ++ record434841 ++ lent 39)
    ∷ done 2 14 false (record41 ++ record434841 ++ lent 39)
    ∷ done 1 8 false (record434841 ++ lent 45)
    ∷ done 1 8 false (record434841 ++ lent 45)
    ∷ done 0 0 false (lent 53)
    ∷ done 0 0 false (lent 53)
    ∷ [])
unfolding calls_open pages_open fresh_in fresh sample_e sample_f sample_g
rest_of_g = refl

-- the root's table alone is printed: B, where mark 1 holds 41 with 0 and the root 41 with 1
pub root_of_b : ◌≡◌ {A = Page} (page sample_b.block [] (lent 53)) (done 1 6 false (record41 ++ lent 47))
unfolding calls_open pages_open snapshots_open fresh_in fresh sample_a sample_b
root_of_b = refl

-- the split of 33 35 41 42 43 50 51, as `split_of_seven` of the samples computes it, after 41 and after 44: through its ends and mids by rising
-- character
pub rest_of_split :
    ◌≡◌ {A = List Page}
    (map (λ key. page split_block key (lent 53)) ((0x41 ∷ []) ∷ (0x44 ∷ []) ∷ []))
    (done 4 24 false
    ((0x01 ∷ 0x42 ∷ 0x00 ∷ 0x00 ∷ 0x00 ∷ 0x03 ∷ [])
    ++ (0x01 ∷ 0x43 ∷ 0x00 ∷ 0x00 ∷ 0x00 ∷ 0x04 ∷ [])
    ++ (0x01 ∷ 0x50 ∷ 0x00 ∷ 0x00 ∷ 0x00 ∷ 0x05 ∷ [])
    ++ (0x01 ∷ 0x51 ∷ 0x00 ∷ 0x00 ∷ 0x00 ∷ 0x06 ∷ [])
    ++ lent 29)
    ∷ done 2 12 false ((0x01 ∷ 0x50 ∷ 0x00 ∷ 0x00 ∷ 0x00 ∷ 0x05 ∷ []) ++ (0x01 ∷ 0x51 ∷ 0x00 ∷ 0x00 ∷ 0x00 ∷ 0x06 ∷ []) ++ lent 41)
    ∷ [])
unfolding pages_open split_block
rest_of_split = refl
