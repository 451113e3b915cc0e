-- 02, 7: "Spread the wear.": where two of a list of insertions take the same cell, these two and those between take every usable cell or find it
-- reached as they begin.
use mathlib.Core.Path.{◌≡◌, sym, ap, ◌∙◌, subst}
use mathlib.Core.Logic.{◌≢◌, ◌⊎◌, inl, inr, ⊎_elim}
use mathlib.Core.Bool.{true}
use mathlib.Core.List.{List, [], ◌∷◌, ◌++◌}
use Prim.Native.Nat.{ℕ, suc, ◌+◌, ◌-◌, ◌/◌, ◌≤◌, ◌<◌}
use native.Mathlib.Decide.{dec_le, ℕ_discrete}
use native.Mathlib.Omega.{arith}
use lib.ListN.{length, take, drop, take-append-drop}
use Rattle.cells.specs.Bytes.{IsBytes}
use Rattle.cells.specs.Memory.{memory_of}
use Rattle.cells.specs.Occurrences.{occurrences}
use Rattle.cells.proofs.Occurrences.{occurrences_none, occurrences-append}
use Rattle.nodes.specs.Layout.{Layout, usable}
use Rattle.nodes.proofs.Pointers.{usable_inside}
use Rattle.trees.specs.Entries.{Entry}
use Rattle.updates.proofs.Claims.{numbers}
use Rattle.updates.proofs.Commit.{memory_with_other, numbers_taken}
use Rattle.blocks.specs.Trailer.{layout_of, root_word}
use Rattle.blocks.specs.Sound.{reachable}
use Rattle.store.specs.Free.{first_tried, free}
use Rattle.store.specs.GoesOn.{last_taken, GoesOn}
use Rattle.store.specs.Insert.{cells_free, block_build}
use Rattle.store.specs.Committed.{numbering}
use Rattle.store.specs.InTurn.{insert_entry, taken_by, after_all, taken_by_all, ReachedMeanwhile, KeysAreBytes}
use Rattle.store.proofs.Free.{free_every, free-usable}
use Rattle.store.proofs.InsertCall.{inserted_change, insert_zero, insert_refused, insert_refused_count, insert-after, insert-laid}
use Rattle.store.proofs.GoesOn.{insert-goes_on}
use Rattle.store.proofs.Rising.{rising_taken, rising_last, last_taken_lem}
use Rattle.store.proofs.Turns.{place, turn_goes_on, free_rises}

-- where the search of a block starts
abbrev start_in : List ℕ → ℕ
start_in b = first_tried (layout_of b) (root_word (layout_of b) b)

-- where a cell comes in it
abbrev place_in : List ℕ → ℕ → ℕ
place_in b c = place (layout_of b).cells (start_in b) c

-- of two usable cells the search comes to the first before the second
record Sooner (b : List ℕ) (d c : ℕ) : Type 0 where
  bytes : IsBytes b
  d_usable : usable (layout_of b) d ≡ true
  c_usable : usable (layout_of b) c ≡ true
  less : place_in b d < place_in b c

-- a cell is taken by one of the insertions or reached as one begins
abbrev Found : ℕ → List ℕ → List Entry → Type 0
Found d b entries = (1 ≤ occurrences d (taken_by_all b entries)) ⊎ ReachedMeanwhile d b entries

module _ (b : List ℕ) (entry : Entry) where
  -- how many cells an insertion takes
  abbrev count : ℕ
  count = (insert_entry b entry).count

  -- the block that it leaves
  abbrev after : List ℕ
  after = (insert_entry b entry).block

  -- a cell that is taken was free
  taken_free : (c : ℕ) → 1 ≤ occurrences c (taken_by b entry) → 1 ≤ occurrences c (free (layout_of b) b)
  taken_free c taken =
      let cut = ap (occurrences c) (take-append-drop count (free (layout_of b) b)) in
      omega (arith, taken, cut, occurrences-append c (taken_by b entry) (drop count (free (layout_of b) b)))

  -- the search comes to it before any free cell that is left
  taken_sooner : (c d : ℕ) → 1 ≤ occurrences c (taken_by b entry) → 1 ≤ occurrences d (free (layout_of b) b) → occurrences d (taken_by b entry) ≡ 0
      → place_in b c < place_in b d
  taken_sooner = rising_taken (place_in b) count (free (layout_of b) b) (free_rises (layout_of b) b)

  -- an insertion that takes a cell is not refused
  taken_done : (c : ℕ) → 1 ≤ occurrences c (taken_by b entry) → (insert_entry b entry).answer ≡ 0
  taken_done c taken = elim (ℕ_discrete (insert_entry b entry).answer 0) [
    | yes done ↦ done
    | no refused ↦
        let none = ap (λ (n : ℕ). occurrences c (take n (free (layout_of b) b))) (insert_refused_count b entry.key entry.value refused) in
        absurd (omega (arith, taken, none, occurrences_none c))
  ]

  module _ (bytes : IsBytes b) (is_bytes : IsBytes entry.key) (done : (insert_entry b entry).answer ≡ 0) where
    -- it leaves the layout, and the next search goes on behind the cell taken last
    goes_on : GoesOn b count after
    goes_on = insert-goes_on b entry.key entry.value bytes is_bytes done

    same_layout : layout_of after ≡ layout_of b
    same_layout = (insert-after b entry.key entry.value bytes is_bytes done).layout

    -- it takes some of the free cells, and no more than there are
    last_free : count - 1 < cells_free b
    last_free =
        omega (
          arith,
          goes_on.some_taken,
          (insert-laid b entry.key entry.value bytes is_bytes done).counted,
          (inserted_change b entry.key entry.value bytes is_bytes ((insert_zero b entry.key entry.value).only done)).enough,
        )

    counted : suc (count - 1) ≡ count
    counted = omega (arith, goes_on.some_taken)

    -- the cell taken last is one of those taken, and the search comes to no other of them after it
    last_one : 1 ≤ occurrences (last_taken b count) (taken_by b entry)
    last_one =
        subst (λ (n : ℕ). 1 ≤ occurrences (last_taken b count) (take n (free (layout_of b) b))) counted
        (last_taken_lem (free (layout_of b) b) (count - 1) last_free)

    until_last : (c : ℕ) → 1 ≤ occurrences c (taken_by b entry) → place_in b c ≤ place_in b (last_taken b count)
    until_last c taken =
        rising_last (place_in b) (free (layout_of b) b) (count - 1) (free_rises (layout_of b) b) last_free c
        (subst (λ (n : ℕ). 1 ≤ occurrences c (take n (free (layout_of b) b))) (sym counted) taken)

    -- where a cell comes in the next search, which starts just behind it
    next_place : (c : ℕ) → place_in after c ≡ place (layout_of b).cells (last_taken b count + 1) c
    next_place c =
        ap (λ (l : Layout). place l.cells (start_in after) c) same_layout
        ∙ ap (λ (start : ℕ). place (layout_of b).cells start c) goes_on.next_start

    -- this comes to a free cell that was left before any that was taken, and before any that came later
    module _ (d c : ℕ) (is_free : 1 ≤ occurrences d (free (layout_of b) b)) (left : occurrences d (taken_by b entry) ≡ 0)
        (c_usable : usable (layout_of b) c ≡ true) (order : (place_in b c ≤ place_in b (last_taken b count)) ⊎ (place_in b d < place_in b c)) where
      sooner-after : Sooner after d c
      sooner-after =
          let last : ℕ = last_taken b count in
          let inside : (x : ℕ) → usable (layout_of b) x ≡ true → x < (layout_of b).cells = usable_inside (layout_of b) in
          let d_usable = free-usable (layout_of b) b d is_free in
          let last_usable = free-usable (layout_of b) b last (taken_free last last_one) in
          let less =
          turn_goes_on (layout_of b).cells (start_in b) last d c (inside last last_usable) (inside d d_usable) (inside c c_usable)
          (taken_sooner last d last_one is_free left) order in
          record {
            bytes = (insert-after b entry.key entry.value bytes is_bytes done).bytes;
            d_usable = ap (λ (l : Layout). usable l d) same_layout ∙ d_usable;
            c_usable = ap (λ (l : Layout). usable l c) same_layout ∙ c_usable;
            less = omega (arith, next_place d, next_place c, less);
          }

    -- every other cell keeps its bytes
    others_done : (c : ℕ) → occurrences c (taken_by b entry) ≡ 0 → c ≢ length b / 32 - 1 → memory_of after c ≡ memory_of b c
    others_done c left other =
        let laid = insert-laid b entry.key entry.value bytes is_bytes done in
        let cells = (block_build b entry.key entry.value).cells in
        let none : occurrences c (numbers (numbering b) cells) ≡ 0 =
        numbers_taken (layout_of b) (free (layout_of b) b) c cells (omega (arith, last_free, laid.counted))
        ∙ ap (λ (n : ℕ). occurrences c (take n (free (layout_of b) b))) (sym laid.counted) ∙ left in
        laid.cells c other ∙ memory_with_other (numbering b) (memory_of b) cells c none

  pub others_kept : IsBytes b → IsBytes entry.key → (c : ℕ) → occurrences c (taken_by b entry) ≡ 0 → c ≢ length b / 32 - 1
      → memory_of after c ≡ memory_of b c
  others_kept bytes is_bytes c left other = elim (ℕ_discrete (insert_entry b entry).answer 0) [
    | yes done ↦ others_done bytes is_bytes done c left other
    | no refused ↦ ap (λ (block : List ℕ). memory_of block c) (insert_refused b entry.key entry.value refused)
  ]

  -- whatever the answer, what came later does so again
  sooner_kept : IsBytes entry.key → (d c : ℕ) → 1 ≤ occurrences d (free (layout_of b) b) → occurrences d (taken_by b entry) ≡ 0
      → Sooner b d c → Sooner after d c
  sooner_kept is_bytes d c is_free left sooner = elim (ℕ_discrete (insert_entry b entry).answer 0) [
    | yes done ↦ sooner-after sooner.bytes is_bytes done d c is_free left sooner.c_usable (inr sooner.less)
    | no refused ↦ subst (λ (block : List ℕ). Sooner block d c) (sym (insert_refused b entry.key entry.value refused)) sooner
  ]

  module _ (d : ℕ) (entries : List Entry) where
    -- a usable cell is found by the first insertion, or free and left by it
    found_now : usable (layout_of b) d ≡ true
        → (1 ≤ occurrences d (free (layout_of b) b) → occurrences d (taken_by b entry) ≡ 0 → Found d b (entry ∷ entries))
        → Found d b (entry ∷ entries)
    unfolding taken_by_all
    found_now good otherwise = elim (dec_le 1 (occurrences d (reachable (layout_of b) b))) [
      | yes reached ↦ inr (inl reached)
      | no unreached ↦ elim (dec_le 1 (occurrences d (taken_by b entry))) [
        | yes taken ↦ inl (omega (arith, taken, occurrences-append d (taken_by b entry) (taken_by_all after entries)))
        | no left ↦ otherwise (omega (arith, free_every (layout_of b) b d good (omega arith))) (omega arith)
      ]
    ]

    -- or by a later one
    found_later : Found d after entries → Found d b (entry ∷ entries)
    unfolding taken_by_all
    found_later =
        ⊎_elim (λ taken. inl (omega (arith, taken, occurrences-append d (taken_by b entry) (taken_by_all after entries)))) (λ reached. inr (inr reached))

-- a cell to which the search comes sooner than to one that is taken at last is found
sooner-found : (c d : ℕ) (last : Entry) (entries : List Entry) (b : List ℕ) → KeysAreBytes entries → Sooner b d c
    → 1 ≤ occurrences c (taken_by (after_all b entries) last) → Found d b (entries ++ (last ∷ []))
unfolding after_all
sooner-found c d last [] b keys sooner again =
    found_now b last d [] sooner.d_usable (λ is_free left. absurd (omega (arith, sooner.less, taken_sooner b last c d again is_free left)))
sooner-found c d last (entry ∷ entries) b keys sooner again =
    found_now b entry d (entries ++ (last ∷ [])) sooner.d_usable
    (λ is_free left.
    found_later b entry d (entries ++ (last ∷ []))
    (sooner-found c d last entries (after b entry) keys.1 (sooner_kept b entry keys.0 d c is_free left sooner) again))

-- where an insertion takes a cell and a later one takes it again, these two and those between take each usable cell or find it reached as they begin
pub in_turn : (b : List ℕ) (first : Entry) (between : List Entry) (last : Entry) → IsBytes b → KeysAreBytes (first ∷ between)
    → (c : ℕ) → 1 ≤ occurrences c (taken_by b first) → 1 ≤ occurrences c (taken_by (after_all b (first ∷ between)) last)
    → (d : ℕ) → usable (layout_of b) d ≡ true
    → (1 ≤ occurrences d (taken_by_all b (first ∷ (between ++ (last ∷ []))))) ⊎ ReachedMeanwhile d b (first ∷ (between ++ (last ∷ [])))
unfolding after_all
in_turn b first between last bytes keys c taken again d good =
    let done = taken_done b first c taken in
    found_now b first d (between ++ (last ∷ [])) good
    (λ is_free left.
    found_later b first d (between ++ (last ∷ []))
    (sooner-found c d last between (after b first) keys.1
    (sooner-after b first bytes keys.0 done d c is_free left (free-usable (layout_of b) b c (taken_free b first c taken))
    (inl (until_last b first bytes keys.0 done c taken)))
    again))
