-- A split that loses a child and stays a split: an end and a mid with no pointer left are not rebuilt.
use mathlib.Core.Path.{◌≡◌, refl, sym, ap, ◌∙◌, subst}
use mathlib.Core.Logic.{◌≢◌}
use mathlib.Core.List.{List, [], ◌∷◌, ◌++◌}
use mathlib.Core.Option.{Option, some}
use native.Mathlib.Omega.{arith}
use Prim.Native.Nat.{ℕ, ◌+◌, ◌*◌, ◌/◌, ◌%◌, ◌≤◌, ◌<◌}
use lib.Dec.{eqb}
use lib.ListN.{length}
use borrow.Author.Tests.{eq-eqb, ne_eqb}
use Rattle.cells.specs.Bytes.{IsBytes}
use Rattle.cells.specs.Word.{with_word}
use Rattle.cells.specs.Memory.{Memory}
use Rattle.cells.specs.Occurrences.{occurrences}
use Rattle.cells.proofs.Words.{word_bound}
use Rattle.cells.proofs.Occurrences.{occurrences-append, occurrences_none, occurrences_later, Agree, agree_less, agree_tail}
use Rattle.nodes.specs.Layout.{Layout, cell_limit}
use Rattle.nodes.specs.Pointer.Pointer.{split}
use Rattle.nodes.specs.Split.{head_word, branch_word, gather, under, end_cells, mid_cells, word_below}
use Rattle.nodes.specs.Node.{Node, plain}
use Rattle.nodes.proofs.Gather.{gather_at, gather_same, gather_change, under_zero, under_word, Framed, under_frame}
use Rattle.nodes.proofs.Frame.{below_zero, head_is, split_cut, end_frame, mid_frame}
use Rattle.nodes.proofs.Steps.WordRows.{some_word_is}
use Rattle.staging.specs.NewCells.{head_copy}
use Rattle.staging.proofs.CellBytes.{word_cell, head_copy_cell}
use Rattle.staging.proofs.BranchWords.{cond_bounded}
use Rattle.updates.specs.Built.{unowned, allocate}
use Rattle.updates.specs.SplitBuild.{Row, branch_row}
use Rattle.updates.specs.SetChild.{with_child}
use Rattle.updates.proofs.Claims.{CellsStand, BuildStands, Placed}
use Rattle.updates.proofs.SplitNodes.SplitCells.{made_nonzero, made_below, made_end, made_mid, allocate_older, head_placed}
use Rattle.updates.proofs.SplitNodes.SplitRows.{WordMade, branch_below_stands, branch_made}
use Rattle.updates.proofs.SplitNodes.SplitOf.{nothing_found}
use Rattle.updates.proofs.SplitNodes.SplitCopied.{old_ends, copied_children, head_copied}
use Rattle.removals.specs.SplitLeft.{split_left}

-- what is gathered under words of which one is replaced, by a pointer or by NONE
gather_left : (m m' : Memory) (f g : ℕ → Option (List ℕ)) → Framed m m' f g
    → (words words' : ℕ → ℕ) (count p v : ℕ) (a new old : List ℕ)
    → p < count → under f (words p) ≡ some a → under g v ≡ some new → ((q : ℕ) → q < count → words' q ≡ with_child words p v q)
    → gather (λ q. under f (words q)) count 0 ≡ some old → Agree m m' old
    → (now : List ℕ) × (gather (λ q. under g (words' q)) count 0 ≡ some now)
    × ((c : ℕ) → occurrences c now + occurrences c a ≡ occurrences c old + occurrences c new)
gather_left m m' f g framed words words' count p v a new old inside was found same e agree =
    let there : words' p ≡ v = same p inside ∙ rw (eq-eqb p p refl) in
    gather_change (λ q. under f (words q)) (λ q. under g (words' q)) count 0 p a new old (omega arith) (omega arith) was
    (ap (under g) there ∙ found)
    (λ q b low high apart at less.
    ap (under g) (same q (omega arith) ∙ rw (ne_eqb q p apart))
    ∙ under_frame m m' f g framed (words q) b at (agree_less m m' old b (λ c h. omega (arith, less c)) agree)) e

-- a word below another in bytes is one of 32 bits
pub below_bounded : (m : Memory) → ((c : ℕ) → IsBytes (m c)) → (w k : ℕ) → word_below m w k < 4294967296
unfolding word_below
below_bounded m bytes w k = cond_bounded (eqb w 0) (omega arith) (word_bound (m (w / 32)) (4 * k) (bytes (w / 32)))

module _ (layout : Layout) (small : layout.cells ≤ cell_limit) (number : ℕ → ℕ) (m m' : Memory)
    (bytes : (c : ℕ) → IsBytes (m c)) (whole : (c : ℕ) → length (m c) ≡ 32) where
  -- what was allocated before it stands
  pub split_left_below : (c x : ℕ) (cells : List (List ℕ)) → BuildStands layout number m' (split_left number m c x cells) → CellsStand layout number m' cells
  unfolding split_left allocate
  split_left_below c x cells standing =
      branch_below_stands layout number m' _ cells (branch_below_stands layout number m' _ _ standing.1)

  -- a word u with these eight words below it: as an end it visits its own cell if any, as a mid that cell and the ends of the words
  abbrev Branch : (ℕ → ℕ) → ℕ → Type 0
  Branch words u =
      ((k : ℕ) → k < 8 → word_below m' u k ≡ words k)
      × ((own ends : List ℕ) → under (end_cells layout m') u ≡ some own → gather (λ j. under (end_cells layout m') (words j)) 8 0 ≡ some ends
      → under (mid_cells layout m') u ≡ some (own ++ ends))

  -- a row of eight words, whether it is to be an end or a mid
  branch_left : (words : ℕ → ℕ) → ((k : ℕ) → words k < 4294967296) → (cells : List (List ℕ)) → CellsStand layout number m' (branch_row number words cells).cells
      → WordMade number (end_cells layout m') (Branch words) ((branch_row number words cells).words 0) cells (branch_row number words cells).cells
  branch_left words bounded cells =
      branch_made layout small number m' (end_cells layout m') (Branch words) words bounded cells cells [] (λ c. omega (arith, occurrences_none c))
      (λ blanks. (
        refl,
        (
          λ k inside. below_zero m' k ∙ sym (blanks k inside),
          λ own ends mine found.
              let nil : ends ≡ [] = nothing_found (end_cells layout m') words 8 ends found blanks in
              let none_own : under (end_cells layout m') 0 ≡ some [] = under_zero (end_cells layout m') in
              let bare : own ≡ [] = cc in
              under_zero (mid_cells layout m') ∙ rw (nil, bare),
        ),
      ))
      (λ d free valid same. (
        made_end layout d free small m' valid,
        (
          λ k inside. made_below layout d free small m' k ∙ same k inside,
          λ own ends mine found.
              let other = made_nonzero layout d free in
              let there = under_word (end_cells layout m') _ other ∙ made_end layout d free small m' valid in
              let is : own ≡ d ∷ [] = cc in
              under_word (mid_cells layout m') _ other
              ∙ made_mid layout d free small m' ends valid
              (gather_same (λ j. under (end_cells layout m') (words j)) (λ j. under (end_cells layout m') (branch_word (m' d) j)) 8 0 ends
              (λ j a low high at _. ap (under (end_cells layout m')) (same j (omega arith)) ∙ at) found)
              ∙ rw is,
        ),
      ))

  -- some child y is left: the node at the new word has the old children without x
  pub split_left-placed : (c : ℕ) (Y : Node) → plain layout m (split c) ≡ some Y → Agree m m' Y.cells → (x : ℕ) → x < 256
      → (y : ℕ) → y < 256 → with_child Y.child x 0 y ≢ 0
      → (cells : List (List ℕ)) → BuildStands layout number m' (split_left number m c x cells)
      → Placed layout number m' Y x (unowned 0 cells) (split_left number m c x cells)
  unfolding split_left
  split_left-placed c Y reads agree x character y near other cells standing =
      let mid : ℕ = head_word (m c) (x / 64) in
      let end : ℕ = word_below m mid (x / 8 % 8) in
      let new_end : Row = branch_row number (with_child (word_below m end) (x % 8) 0) cells in
      let e : ℕ = new_end.words 0 in
      let mid_words : ℕ → ℕ = with_child (word_below m mid) (x / 8 % 8) e in
      let new_mid : Row = branch_row number mid_words new_end.cells in
      let d : ℕ = new_mid.words 0 in
      let new_head : List ℕ = with_word (head_copy (m c)) (0x10 + 4 * (x / 64)) d in
      let older : CellsStand layout number m' new_mid.cells = allocate_older layout number m' 0x1C new_head new_mid.cells standing in
      let E =
      branch_left (with_child (word_below m end) (x % 8) 0) (λ k. cond_bounded (eqb k (x % 8)) (omega arith) (below_bounded m bytes end k)) cells
      (branch_below_stands layout number m' mid_words new_end.cells older) in
      let M = branch_left mid_words (λ k. cond_bounded (eqb k (x / 8 % 8)) E.bounded (below_bounded m bytes mid k)) new_end.cells older in
      let p = split_cut layout m c Y reads in
      let cs : List ℕ = p.0 in
      let alike : Agree m m' (c ∷ cs) = subst (λ (Z : Node). Agree m m' Z.cells) (sym p.3) agree in
      let found : gather (λ i. under (mid_cells layout m) (head_word (m c) i)) 4 0 ≡ some cs = sym (head_is layout m c) ∙ p.2 in
      let at = gather_at (λ i. under (mid_cells layout m) (head_word (m c) i)) 4 0 (x / 64) cs (omega arith) (omega arith) found in
      let alike_mid : Agree m m' at.0 = agree_less m m' (c ∷ cs) at.0 (λ z h. omega (arith, at.2 z, occurrences_later z c cs)) alike in
      let o = old_ends layout m mid at.0 at.1 in
      let was = gather_at (λ j. under (end_cells layout m) (word_below m mid j)) 8 0 (x / 8 % 8) o.0 (omega arith) (omega arith) o.1 in
      let G =
      gather_left m m' (end_cells layout m) (end_cells layout m') (end_frame layout m m') (word_below m mid) mid_words 8 (x / 8 % 8) e was.0 E.cells o.0
      (omega arith) was.1 E.finds (λ q inside. refl) o.1 (agree_less m m' at.0 o.0 (λ z h. omega (arith, o.2 z)) alike_mid) in
      let heads : (i : ℕ) → i < 4 → head_word new_head i ≡ with_child (head_word (m c)) (x / 64) d i =
      λ i inside. head_copied layout small number m m' bytes whole c (x / 64) d i (omega arith) inside M.bounded in
      let H =
      gather_left m m' (mid_cells layout m) (mid_cells layout m') (mid_frame layout m m') (head_word (m c)) (head_word new_head) 4 (x / 64) d
      at.0 (M.cells ++ G.0) cs (omega arith) at.1 (M.good.1 M.cells G.0 M.finds G.1) heads found (agree_tail m m' c cs alike) in
      let children : (z : ℕ) → z < 256 → word_below m' (word_below m' (head_word new_head (z / 64)) (z / 8 % 8)) (z % 8) ≡ with_child Y.child x 0 z =
      λ z inside.
      copied_children layout m m' c cs p.2 alike x 0 d e (head_word new_head) heads M.good.0 E.good.0 z inside
      ∙ ap (λ (Z : Node). with_child Z.child x 0 z) p.3 in
      let some_mid : head_word new_head (y / 64) ≢ 0 =
      λ is. other
      (sym (children y near) ∙ ap (λ u. word_below m' (word_below m' u (y / 8 % 8)) (y % 8)) is
      ∙ ap (λ u. word_below m' u (y % 8)) (below_zero m' (y / 8 % 8)) ∙ below_zero m' (y % 8)) in
      head_placed layout small number m' new_head new_mid.cells standing (word_cell _ _ _ (head_copy_cell (m c))).size Y x (unowned 0 cells) H.0
      (some_word_is (head_word new_head) 4 0 (y / 64) (omega arith) (omega arith) some_mid) H.1 children
      (λ z. omega (
        arith,
        H.2 z,
        occurrences-append z M.cells G.0,
        G.2 z,
        M.count z,
        E.count z,
        was.2 z,
        o.2 z,
        at.2 z,
        occurrences_later z c cs,
        ap (λ (Z : Node). occurrences z Z.cells) p.3,
      ))
      (λ z. omega (arith, H.2 z, occurrences-append z M.cells G.0, G.2 z, M.count z, E.count z, was.2 z, at.2 z))
