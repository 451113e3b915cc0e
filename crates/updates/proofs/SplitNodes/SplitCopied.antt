-- A split copied with one child set.
use mathlib.Core.Path.{◌≡◌, refl, sym, ap, ◌∙◌, subst}
use mathlib.Core.Logic.{◌≢◌}
use mathlib.Core.Bool.{true, cond}
use mathlib.Core.List.{List, [], ◌∷◌}
use mathlib.Core.Option.{Option, some}
use native.Mathlib.Decide.{ℕ_discrete}
use native.Mathlib.Omega.{arith}
use Prim.Native.Nat.{ℕ, ◌+◌, ◌*◌, ◌/◌, ◌%◌, ◌≤◌, ◌<◌}
use lib.Dec.{eqb}
use lib.ListN.{length}
use borrow.Author.Tests.{eq-eqb, ne_eqb}
use Rattle.cells.specs.Bytes.{IsBytes}
use Rattle.cells.specs.Word.{with_word}
use Rattle.cells.specs.Memory.{Memory}
use Rattle.cells.specs.Occurrences.{occurrences}
use Rattle.cells.proofs.Occurrences.{occurrences-append, occurrences_none, occurrences_later, Agree, agree_less, agree_head, agree_tail}
use Rattle.nodes.specs.Layout.{Layout, cell_limit}
use Rattle.nodes.specs.Pointer.{word_to}
use Rattle.nodes.specs.Pointer.Pointer.{split}
use Rattle.nodes.specs.Sparse.{some_word}
use Rattle.nodes.specs.Split.{head_word, branch_word, valid_branch, gather, under, end_cells, mid_cells, head_cells, word_below, split_child}
use Rattle.nodes.specs.Node.{Node, plain}
use Rattle.nodes.proofs.Gather.{gather_at, gather_same, gather_change, gather_nil, under_zero, under_word, Framed, under_frame}
use Rattle.nodes.proofs.Frame.{below_zero, below_split, end_cut, mid_cut, mid_ends, head_is, split_cut, end_frame, mid_frame, split_child_frame}
use Rattle.staging.specs.NewCells.{branch_copy, head_copy}
use Rattle.updates.specs.Built.{Built, allocate}
use Rattle.updates.specs.SplitBuild.{split_copied}
use Rattle.updates.specs.SetChild.{with_child}
use Rattle.updates.proofs.Claims.{CellStands, CellsStand, BuildStands, cells_stand_from, numbers_more, Consistent, Placed}
use Rattle.staging.proofs.CellBytes.{word_cell, head_copy_cell}
use Rattle.nodes.proofs.Steps.WordRows.{some_word_is}
use Rattle.staging.proofs.BranchWords.{branch_set, head_set_lem, head_copy_word, branch_copy-length, branch_copy_word, bits_same}
use Rattle.updates.proofs.SplitNodes.SplitCells.{made_nonzero, made_bounded, made_below, made_end, made_mid, allocate_older, head_placed}

-- words with one of them replaced by a pointer: some word is a pointer, and what is gathered under them
pub some_replaced : (words words' : ℕ → ℕ) (count p v : ℕ) → p < count → v ≢ 0
    → ((q : ℕ) → q < count → words' q ≡ cond (eqb q p) v (words q)) → some_word words' count 0 ≡ true
some_replaced words words' count p v inside other same =
    let there : words' p ≡ v = same p inside ∙ rw (eq-eqb p p refl) in
    some_word_is words' count 0 p (omega arith) (omega arith) (λ e. other (sym there ∙ e))

pub gather_replaced : (m m' : Memory) (f g : ℕ → Option (List ℕ)) → Framed m m' f g
    → (words words' : ℕ → ℕ) (count p v : ℕ) (a new old : List ℕ)
    → p < count → v ≢ 0 → under f (words p) ≡ some a → g v ≡ some new → ((q : ℕ) → q < count → words' q ≡ cond (eqb q p) v (words q))
    → gather (λ q. under f (words q)) count 0 ≡ some old → Agree m m' old
    → (now : List ℕ) × (gather (λ q. under g (words' q)) count 0 ≡ some now)
    × ((c : ℕ) → occurrences c now + occurrences c a ≡ occurrences c old + occurrences c new)
gather_replaced m m' f g framed words words' count p v a new old inside other was found same e agree =
    let there : words' p ≡ v = same p inside ∙ rw (eq-eqb p p refl) in
    gather_change (λ q. under f (words q)) (λ q. under g (words' q)) count 0 p a new old (omega arith) (omega arith) was
    (ap (under g) there ∙ under_word g v other ∙ found)
    (λ q b low high apart at less.
    ap (under g) (same q (omega arith) ∙ rw (ne_eqb q p apart))
    ∙ under_frame m m' f g framed (words q) b at (agree_less m m' old b (λ c h. omega (arith, less c)) agree)) e

module _ (layout : Layout) (m : Memory) where
  -- the ends of a mid, NONE or not
  pub old_ends : (w : ℕ) (a : List ℕ) → under (mid_cells layout m) w ≡ some a
      → (ends : List ℕ) × (gather (λ j. under (end_cells layout m) (word_below m w j)) 8 0 ≡ some ends)
      × ((c : ℕ) → occurrences c ends ≤ occurrences c a)
  old_ends w a e = elim (ℕ_discrete w 0) [
    | yes zero_word ↦ (
      [],
      gather_nil (λ j. under (end_cells layout m) (word_below m w j)) 8 0
          (λ j. ap (under (end_cells layout m)) (ap (λ v. word_below m v j) zero_word ∙ below_zero m j) ∙ under_zero (end_cells layout m)),
      λ c. omega (arith, occurrences_none c),
    )
    | no other ↦
        let p = mid_cut layout m w a (sym (under_word (mid_cells layout m) w other) ∙ e) in (
          p.1,
          gather_same (λ j. under (end_cells layout m) (branch_word (m p.0) j)) (λ j. under (end_cells layout m) (word_below m w j)) 8 0 p.1
              (λ j b low high at _. ap (under (end_cells layout m)) (below_split layout m w p.0 j p.2) ∙ at) p.4,
          λ c. omega (arith, occurrences_later c p.0 p.1, ap (occurrences c) p.5),
        )
  ]

  -- the words of an end in a memory that is alike on it
  pub end_below : (m' : Memory) (w k : ℕ) (a : List ℕ) → under (end_cells layout m) w ≡ some a → Agree m m' a → word_below m' w k ≡ word_below m w k
  end_below m' w k a e agree = elim (ℕ_discrete w 0) [
    | yes zero_word ↦ ap (λ v. word_below m' v k) zero_word ∙ below_zero m' k ∙ sym (ap (λ v. word_below m v k) zero_word ∙ below_zero m k)
    | no other ↦
        let p = end_cut layout m w a (sym (under_word (end_cells layout m) w other) ∙ e) in
        let cell : m p.0 ≡ m' p.0 = agree_head m m' p.0 [] (subst (Agree m m') (sym p.3) agree) in
        below_split layout m' w p.0 k p.1 ∙ ap (λ l. branch_word l k) (sym cell) ∙ sym (below_split layout m w p.0 k p.1)
  ]

  -- the children by the words of a new head, mid and end
  module _ (m' : Memory) (c : ℕ) (cs : List ℕ) (found : head_cells layout m c ≡ some cs) (agree : Agree m m' (c ∷ cs))
      (x word mid end : ℕ) (head : ℕ → ℕ)
      (heads : (i : ℕ) → i < 4 → head i ≡ cond (eqb i (x / 64)) mid (head_word (m c) i))
      (mids : (j : ℕ) → j < 8 → word_below m' mid j ≡ cond (eqb j (x / 8 % 8)) end (word_below m (head_word (m c) (x / 64)) j))
      (ends : (k : ℕ) → k < 8 → word_below m' end k ≡ cond (eqb k (x % 8)) word (word_below m (word_below m (head_word (m c) (x / 64)) (x / 8 % 8)) k)) where
    -- with the upper bits of another mid, of another end, and of the same end
    other_mid : (y : ℕ) → y < 256 → y / 64 ≢ x / 64 → word_below m' (word_below m' (head (y / 64)) (y / 8 % 8)) (y % 8) ≡ split_child m c y
    unfolding split_child
    other_mid y near other =
        let old : head (y / 64) ≡ head_word (m c) (y / 64) = heads (y / 64) (omega arith) ∙ rw (ne_eqb (y / 64) (x / 64) other) in
        ap (λ v. word_below m' (word_below m' v (y / 8 % 8)) (y % 8)) (old ∙ ap (λ l. head_word l (y / 64)) (agree_head m m' c cs agree))
        ∙ sym (split_child_frame layout m m' c cs found agree y near)

    same_mid : (y : ℕ) → y < 256 → y / 64 ≡ x / 64 → word_below m' (head (y / 64)) (y / 8 % 8)
        ≡ cond (eqb (y / 8 % 8) (x / 8 % 8)) end (word_below m (head_word (m c) (y / 64)) (y / 8 % 8))
    same_mid y near e =
        let new : head (y / 64) ≡ mid = heads (y / 64) (omega arith) ∙ rw (eq-eqb (y / 64) (x / 64) e) in
        ap (λ v. word_below m' v (y / 8 % 8)) new ∙ mids (y / 8 % 8) (omega arith)
        ∙ ap (λ i. cond (eqb (y / 8 % 8) (x / 8 % 8)) end (word_below m (head_word (m c) i) (y / 8 % 8))) (sym e)

    other_end : (y : ℕ) → y < 256 → y / 64 ≡ x / 64 → y / 8 % 8 ≢ x / 8 % 8
        → word_below m' (word_below m' (head (y / 64)) (y / 8 % 8)) (y % 8) ≡ split_child m c y
    unfolding split_child
    other_end y near e other =
        let p =
        gather_at (λ i. under (mid_cells layout m) (head_word (m c) i)) 4 0 (y / 64) cs (omega arith) (omega arith) (sym (head_is layout m c) ∙ found) in
        let r = mid_ends layout m (head_word (m c) (y / 64)) (y / 8 % 8) p.0 (omega arith) p.1 in
        let alike : Agree m m' r.0 =
        agree_less m m' (c ∷ cs) r.0 (λ d h. omega (arith, r.2 d, p.2 d, occurrences_later d c cs)) agree in
        let old : word_below m' (head (y / 64)) (y / 8 % 8) ≡ word_below m (head_word (m c) (y / 64)) (y / 8 % 8) =
        same_mid y near e ∙ rw (ne_eqb (y / 8 % 8) (x / 8 % 8) other) in
        ap (λ v. word_below m' v (y % 8)) old
        ∙ end_below m' (word_below m (head_word (m c) (y / 64)) (y / 8 % 8)) (y % 8) r.0 r.1 alike

    same_end : (y : ℕ) → y < 256 → y / 64 ≡ x / 64 → y / 8 % 8 ≡ x / 8 % 8
        → word_below m' (word_below m' (head (y / 64)) (y / 8 % 8)) (y % 8) ≡ cond (eqb (y % 8) (x % 8)) word (split_child m c y)
    unfolding split_child
    same_end y near e e2 =
        let new : word_below m' (head (y / 64)) (y / 8 % 8) ≡ end = same_mid y near e ∙ rw (eq-eqb (y / 8 % 8) (x / 8 % 8) e2) in
        ap (λ v. word_below m' v (y % 8)) new ∙ ends (y % 8) (omega arith)
        ∙ ap (λ i. cond (eqb (y % 8) (x % 8)) word (word_below m (word_below m (head_word (m c) i) (x / 8 % 8)) (y % 8))) (sym e)
        ∙ ap (λ j. cond (eqb (y % 8) (x % 8)) word (word_below m (word_below m (head_word (m c) (y / 64)) j) (y % 8))) (sym e2)

    pub copied_children : (y : ℕ) → y < 256 → word_below m' (word_below m' (head (y / 64)) (y / 8 % 8)) (y % 8) ≡ with_child (split_child m c) x word y
    copied_children y near = elim (ℕ_discrete (y / 64) (x / 64)) [
      | no other ↦ let apart : y ≢ x = λ e. other (ap (λ k. k / 64) e) in rw (ne_eqb y x apart) (other_mid y near other)
      | yes e ↦ elim (ℕ_discrete (y / 8 % 8) (x / 8 % 8)) [
        | no other ↦ let apart : y ≢ x = λ e. other (ap (λ k. k / 8 % 8) e) in rw (ne_eqb y x apart) (other_end y near e other)
        | yes e2 ↦ same_end y near e e2 ∙ elim (ℕ_discrete (y % 8) (x % 8)) [
          | no other ↦ let apart : y ≢ x = λ e. other (ap (λ k. k % 8) e) in rw (ne_eqb (y % 8) (x % 8) other, ne_eqb y x apart)
          | yes e3 ↦ let same : y ≡ x = bits_same x y e e2 e3 in rw (eq-eqb (y % 8) (x % 8) e3, eq-eqb y x same)
        ]
      ]
    ]

-- the cells allocated before stand where those of the copy do
module _ (layout : Layout) (number : ℕ → ℕ) (m m' : Memory) where
  pub split_below_stands : (c x : ℕ) (b : Built) → BuildStands layout number m' (split_copied number m c x b) → BuildStands layout number m' b
  unfolding split_copied allocate
  split_below_stands c x b standing = cells_stand_from layout number m' _ b.cells standing.1.1.1

module _ (layout : Layout) (small : layout.cells ≤ cell_limit) (number : ℕ → ℕ) (m m' : Memory)
    (bytes : (c : ℕ) → IsBytes (m c)) (whole : (c : ℕ) → length (m c) ≡ 32) where
  -- the words of a mid or end copied, and of a head copied
  branch_copied : (w p v q : ℕ) → p < 8 → v < 4294967296 → branch_word (with_word (branch_copy m w) (4 * p) v) q ≡ cond (eqb q p) v (word_below m w q)
  branch_copied w p v q inside bounded =
      branch_set (branch_copy m w) p v q (branch_copy-length m w (whole (w / 32))) inside bounded ∙ ap (cond (eqb q p) v) (branch_copy_word m w q)

  pub head_copied : (c p v q : ℕ) → p < 4 → q < 4 → v < 4294967296
      → head_word (with_word (head_copy (m c)) (0x10 + 4 * p) v) q ≡ cond (eqb q p) v (head_word (m c) q)
  head_copied c p v q inside near bounded =
      head_set_lem (head_copy (m c)) p v q (head_copy_cell (m c)).size inside bounded ∙ ap (cond (eqb q p) v) (head_copy_word (m c) q near (bytes c))

  -- a mid or end copied that stands, with a pointer set in it
  module _ (w p v : ℕ) (inside : p < 8) (other : v ≢ 0) (bounded : v < 4294967296) (d : ℕ)
      (stands : CellStands layout m' 0 d (with_word (branch_copy m w) (4 * p) v)) where
    copy_words : (q : ℕ) → q < 8 → branch_word (m' d) q ≡ cond (eqb q p) v (word_below m w q)
    copy_words q near = ap (λ l. branch_word l q) stands.bytes ∙ branch_copied w p v q inside bounded

    copy_below : (q : ℕ) → q < 8 → word_below m' (word_to d 0x1C) q ≡ cond (eqb q p) v (word_below m w q)
    copy_below q near = made_below layout d stands.free small m' q ∙ copy_words q near

    copy_valid : valid_branch (m' d) ≡ true
    copy_valid = some_replaced (word_below m w) (branch_word (m' d)) 8 p v inside other copy_words

    copied_end : end_cells layout m' (word_to d 0x1C) ≡ some (d ∷ [])
    copied_end = made_end layout d stands.free small m' copy_valid

    -- a mid visits its cell, the new end and the ends that it had, without the one replaced
    copied_mid : (a new : List ℕ) → under (mid_cells layout m) w ≡ some a → Agree m m' a → end_cells layout m' v ≡ some new
        → (ends : List ℕ) × (mid_cells layout m' (word_to d 0x1C) ≡ some (d ∷ ends))
        × ((c : ℕ) → occurrences c ends ≤ occurrences c a + occurrences c new) × ((c : ℕ) → occurrences c new ≤ occurrences c ends)
    copied_mid a new found agree end =
        let o = old_ends layout m w a found in
        let at = gather_at (λ j. under (end_cells layout m) (word_below m w j)) 8 0 p o.0 (omega arith) (omega arith) o.1 in
        let alike : Agree m m' o.0 = agree_less m m' a o.0 (λ c h. omega (arith, o.2 c)) agree in
        let r =
        gather_replaced m m' (end_cells layout m) (end_cells layout m') (end_frame layout m m') (word_below m w) (branch_word (m' d)) 8 p v
        at.0 new o.0 inside other at.1 end copy_words o.1 alike in (
          r.0,
          made_mid layout d stands.free small m' r.0 copy_valid r.1,
          λ c. omega (arith, r.2 c, o.2 c),
          λ c. omega (arith, r.2 c, at.2 c),
        )

  -- the end, the mid and the head of the copy
  module _ (c : ℕ) (Y : Node) (reads : plain layout m (split c) ≡ some Y) (agree : Agree m m' Y.cells)
      (x : ℕ) (character : x < 256) (b : Built) (nonzero : b.word ≢ 0) (consistent : Consistent layout number b) where
    pub split_placed : BuildStands layout number m' (split_copied number m c x b) → Placed layout number m' Y x b (split_copied number m c x b)
    unfolding split_copied
    split_placed standing =
        let mid : ℕ = head_word (m c) (x / 64) in
        let end : ℕ = word_below m mid (x / 8 % 8) in
        let new_end : List ℕ = with_word (branch_copy m end) (4 * (x % 8)) b.word in
        let with_end : List (List ℕ) = new_end ∷ b.cells in
        let e : ℕ = number (length b.cells) in
        let new_mid : List ℕ = with_word (branch_copy m mid) (4 * (x / 8 % 8)) (word_to e 0x1C) in
        let with_mid : List (List ℕ) = new_mid ∷ with_end in
        let d : ℕ = number (length with_end) in
        let new_head : List ℕ = with_word (head_copy (m c)) (0x10 + 4 * (x / 64)) (word_to d 0x1C) in
        let older : CellsStand layout number m' with_mid = allocate_older layout number m' 0x1C new_head with_mid standing in
        let mid_stands : CellStands layout m' 0 d new_mid = older.0 in
        let end_stands : CellStands layout m' 0 e new_end = older.1.0 in
        let e_other : word_to e 0x1C ≢ 0 = made_nonzero layout e end_stands.free in
        let e_bounded : word_to e 0x1C < 4294967296 = made_bounded layout e end_stands.free small in
        let d_other : word_to d 0x1C ≢ 0 = made_nonzero layout d mid_stands.free in
        let d_bounded : word_to d 0x1C < 4294967296 = made_bounded layout d mid_stands.free small in
        let p = split_cut layout m c Y reads in
        let cs : List ℕ = p.0 in
        let alike : Agree m m' (c ∷ cs) = subst (λ (Z : Node). Agree m m' Z.cells) (sym p.3) agree in
        let found : gather (λ i. under (mid_cells layout m) (head_word (m c) i)) 4 0 ≡ some cs = sym (head_is layout m c) ∙ p.2 in
        let at = gather_at (λ i. under (mid_cells layout m) (head_word (m c) i)) 4 0 (x / 64) cs (omega arith) (omega arith) found in
        let alike_mid : Agree m m' at.0 = agree_less m m' (c ∷ cs) at.0 (λ z h. omega (arith, at.2 z, occurrences_later z c cs)) alike in
        let M =
        copied_mid mid (x / 8 % 8) (word_to e 0x1C) (omega arith) e_other e_bounded d mid_stands at.0 (e ∷ []) at.1 alike_mid
        (copied_end end (x % 8) b.word (omega arith) nonzero consistent.small e end_stands) in
        let heads : (i : ℕ) → i < 4 → head_word new_head i ≡ cond (eqb i (x / 64)) (word_to d 0x1C) (head_word (m c) i) =
        λ i near. head_copied c (x / 64) (word_to d 0x1C) i (omega arith) near d_bounded in
        let H =
        gather_replaced m m' (mid_cells layout m) (mid_cells layout m') (mid_frame layout m m') (head_word (m c)) (head_word new_head) 4 (x / 64) (word_to d 0x1C)
        at.0 (d ∷ M.0) cs (omega arith) d_other at.1 M.1 heads found (agree_tail m m' c cs alike) in
        head_placed layout small number m' new_head with_mid standing (word_cell _ _ _ (head_copy_cell (m c))).size Y x b H.0
        (some_replaced (head_word (m c)) (head_word new_head) 4 (x / 64) (word_to d 0x1C) (omega arith) d_other heads) H.1
        (λ y near.
        copied_children layout m m' c cs p.2 alike x b.word (word_to d 0x1C) (word_to e 0x1C) (head_word new_head) heads
        (copy_below mid (x / 8 % 8) (word_to e 0x1C) (omega arith) e_other e_bounded d mid_stands)
        (copy_below end (x % 8) b.word (omega arith) nonzero consistent.small e end_stands) y near
        ∙ ap (λ (Z : Node). with_child Z.child x b.word y) p.3)
        (λ z. omega (
          arith,
          H.2 z,
          M.2 z,
          occurrences-append z (d ∷ []) M.0,
          occurrences_later z c cs,
          ap (λ (Z : Node). occurrences z Z.cells) p.3,
          numbers_more number z new_mid with_end,
          numbers_more number z new_end b.cells,
        ))
        (λ z. omega (
          arith,
          H.2 z,
          M.3 z,
          at.2 z,
          occurrences-append z (d ∷ []) M.0,
          numbers_more number z new_mid with_end,
          numbers_more number z new_end b.cells,
        ))
