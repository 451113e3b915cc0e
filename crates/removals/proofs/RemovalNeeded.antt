-- The removal, and so the number of cells that it needs, are the same in memories that are alike on the root's tree.
use mathlib.Core.Path.{◌≡◌, refl, sym, ap, ◌∙◌, subst}
use mathlib.Core.Bool.{cond}
use mathlib.Core.List.{List, [], ◌∷◌}
use mathlib.Core.Option.{none, some}
use Prim.Native.Nat.{ℕ, zero, suc, ◌+◌, ◌*◌, ◌/◌, ◌%◌, ◌≤◌, ◌<◌}
use native.Mathlib.Omega.{arith}
use lib.Dec.{eqb, leb}
use lib.ListN.{length, get_or}
use Rattle.cells.specs.Bytes.{IsBytes}
use Rattle.cells.specs.Word.{with_word}
use Rattle.cells.specs.Memory.{Memory}
use Rattle.cells.proofs.Choice.{never}
use Rattle.cells.proofs.Occurrences.{occurrences_none, occurrences_later, Agree, agree_less, agree_head, agree_tail}
use Rattle.nodes.specs.Layout.{Layout, cell_limit}
use Rattle.nodes.specs.Pointer.{Pointer, pointer}
use Rattle.nodes.specs.Pointer.Pointer.{nothing, leaf, chain, split, sparse, prefix, invalid}
use Rattle.nodes.specs.Split.{head_word, under, split_cell, mid_cells, head_cells, word_below}
use Rattle.nodes.specs.Prefix.{prefix_value, prefix_link}
use Rattle.nodes.specs.Node.{Node, childless, plain, read_at, read}
use Rattle.nodes.specs.Value.{pointer_value}
use Rattle.nodes.proofs.Gather.{gather_at}
use Rattle.nodes.proofs.Frame.{end_agree, mid_agree, below_same, head_is, mid_ends, split_cut, prefix_cut, read_is, plain_read, read_zero, plain_frame}
use Rattle.trees.specs.Tree.{tree}
use Rattle.staging.specs.NewCells.{blank, chain_cell, head_copy, with_words, with_order}
use Rattle.updates.specs.Built.{Built, unowned, allocate}
use Rattle.updates.specs.SplitBuild.{branch_row}
use Rattle.updates.specs.SetChild.{with_child, set_child}
use Rattle.updates.specs.Build.{word_aside, child_of}
use Rattle.updates.proofs.Related.{Characters}
use Rattle.updates.proofs.Needed.{Same, set_child_frame, path_frame}
use Rattle.updates.proofs.PrefixNodes.Aside.{child_of_lem}
use Rattle.removals.specs.RisingCell.{characters_from, with_characters, rising_order, rising_cell}
use Rattle.removals.specs.SplitLeft.{split_left}
use Rattle.removals.specs.LoseChild.{of_kept, split_stays, lose_child}
use Rattle.removals.specs.Removal.{change_child, put_back_left, left_copy, removed_at, removal, needed_to_remove}
use Rattle.removals.proofs.RemovalRelated.{left_characters}

-- two lists of child words that are the same for the characters
module _ (f g : ℕ → ℕ) (same : (y : ℕ) → y < 256 → f y ≡ g y) where
  -- the same characters have a child
  pub left_characters_same : (count from : ℕ) → from + count ≤ 256 → characters_from f count from ≡ characters_from g count from
  unfolding characters_from
  left_characters_same zero from h = refl
  left_characters_same (suc count) from h =
      let here : f from ≡ g from = same from (omega arith) in
      let later : characters_from f count (from + 1) ≡ characters_from g count (from + 1) = left_characters_same count (from + 1) (omega arith) in
      ap (λ (l : List ℕ). cond (eqb (f from) 0) l (from ∷ l)) later
      ∙ ap (λ (w : ℕ). cond (eqb w 0) (characters_from g count (from + 1)) (from ∷ characters_from g count (from + 1))) here

  -- the word of each position is the same, past the characters too
  word_at_same : (kept : List ℕ) → Characters (λ y. f y ≡ g y) kept → (p : ℕ) → f (get_or kept p 0) ≡ g (get_or kept p 0)
  word_at_same [] each p = same 0 (omega arith)
  word_at_same (x ∷ kept) each zero = each.0
  word_at_same (x ∷ kept) each (suc p) = word_at_same kept each.1 p

  -- the sparse cell of them
  pub rising_same : (kept : List ℕ) → Characters (λ y. f y ≡ g y) kept → rising_cell f kept ≡ rising_cell g kept
  unfolding rising_cell
  rising_same kept each =
      ap (λ (words : ℕ → ℕ). with_order (with_characters kept 0 (with_words words (length kept) 0 blank)) (rising_order (length kept)))
      (λ t p. word_at_same kept each p t)

  -- the node of them
  of_kept_same : (number : ℕ → ℕ) (stays : Built) (kept : List ℕ) → Characters (λ y. f y ≡ g y) kept → (cells : List (List ℕ))
      → of_kept number f stays kept cells ≡ of_kept number g stays kept cells
  unfolding of_kept
  of_kept_same number stays [] each cells = refl
  of_kept_same number stays (x ∷ []) each cells = ap (λ w. allocate number 27 (chain_cell x w) cells) each.0
  of_kept_same number stays (x ∷ y ∷ more) each cells =
      ap (λ s. cond (leb (length more) 4) (allocate number 30 s cells) stays) (rising_same (x ∷ y ∷ more) each)

-- a split without a child, by its head's bytes and the words of the mid and the end
abbrev left_of : (ℕ → ℕ) → ℕ → List (List ℕ) → List ℕ → (ℕ → ℕ) → (ℕ → ℕ) → Built
left_of number x cells head mid end =
    let new_end = branch_row number (with_child end (x % 8) 0) cells in
    let new_mid = branch_row number (with_child mid (x / 8 % 8) (new_end.words 0)) new_end.cells in
    allocate number 28 (with_word (head_copy head) (16 + 4 * (x / 64)) (new_mid.words 0)) new_mid.cells

module _ (layout : Layout) (m m' : Memory) where
  -- the mid and the end of a character, where its split is alike
  branches_same : (x : ℕ) → x < 256 → (c : ℕ) (cs : List ℕ) → head_cells layout m c ≡ some cs → Agree m m' (c ∷ cs)
      → Same layout m m' (head_word (m c) (x / 64)) × Same layout m m' (word_below m (head_word (m c) (x / 64)) (x / 8 % 8))
  branches_same x near c cs e agree =
      let w : ℕ = head_word (m c) (x / 64) in
      let p = gather_at (λ i. under (mid_cells layout m) (head_word (m c) i)) 4 0 (x / 64) cs (omega arith) (omega arith) (sym (head_is layout m c) ∙ e) in
      let r = mid_ends layout m w (x / 8 % 8) p.0 (omega arith) p.1 in
      let agree_mid : Agree m m' p.0 = agree_less m m' (c ∷ cs) p.0 (λ d h. omega (arith, p.2 d, occurrences_later d c cs)) agree in
      let agree_end : Agree m m' r.0 = agree_less m m' p.0 r.0 (λ d h. omega (arith, r.2 d)) agree_mid in
      (mid_agree layout m m' w p.0 p.1 agree_mid, end_agree layout m m' _ r.0 r.1 agree_end)

  -- a node's value and its word without it are alike, and so is the node that this names
  record AsideAlike (w : ℕ) (p : Pointer) : Type 0 where
    pub word : word_aside layout m' p w ≡ word_aside layout m p w
    pub value : pointer_value m' p ≡ pointer_value m p
    pub bare : Node
    pub reads : read_at layout m (pointer layout (word_aside layout m p w)) ≡ some bare
    pub agree : Agree m m' bare.footprint

  aside_alike : (w : ℕ) (p : Pointer) (X : Node) → pointer layout w ≡ p → read_at layout m p ≡ some X → Agree m m' X.footprint → AsideAlike w p
  unfolding word_aside pointer_value
  aside_alike w nothing X named e agree =
      record { word = refl; value = refl; bare = X; reads = ap (read_at layout m) named ∙ e; agree = agree }
  aside_alike w (leaf v) X named e agree =
      record {
        word = refl;
        value = refl;
        bare = childless none;
        reads = sym (read_is layout m 0 _ refl) ∙ read_zero layout m;
        agree = λ c h. absurd (omega (arith, occurrences_none c));
      }
  aside_alike w (chain c k) X named e agree =
      record { word = refl; value = refl; bare = X; reads = ap (read_at layout m) named ∙ e; agree = agree }
  aside_alike w (split c) X named e agree =
      record { word = refl; value = refl; bare = X; reads = ap (read_at layout m) named ∙ e; agree = agree }
  aside_alike w (sparse c) X named e agree =
      record { word = refl; value = refl; bare = X; reads = ap (read_at layout m) named ∙ e; agree = agree }
  aside_alike w (prefix c) X named e agree =
      let q = prefix_cut layout m c X e in
      let agree' : Agree m m' (c ∷ q.0.footprint) = subst (λ (Z : Node). Agree m m' Z.footprint) (sym q.3) agree in
      let cell : m' c ≡ m c = sym (agree_head m m' c q.0.footprint agree') in
      record {
        word = ap (prefix_link c) cell;
        value = ap (λ t. some (prefix_value t)) cell;
        bare = q.0;
        reads = plain_read layout m (pointer layout (prefix_link c (m c))) q.0 q.2;
        agree = agree_tail m m' c q.0.footprint agree';
      }
  aside_alike w invalid X named e agree =
      record { word = refl; value = refl; bare = X; reads = ap (read_at layout m) named ∙ e; agree = agree }

  module _ (number : ℕ → ℕ) (x : ℕ) (near : x < 256) where
    -- a split without the child
    split_left_frame : (c : ℕ) (cs : List ℕ) → head_cells layout m c ≡ some cs → Agree m m' (c ∷ cs) → (cells : List (List ℕ))
        → split_left number m' c x cells ≡ split_left number m c x cells
    unfolding split_left
    split_left_frame c cs e agree cells =
        let w : ℕ = head_word (m c) (x / 64) in
        let v : ℕ = word_below m w (x / 8 % 8) in
        let same = branches_same x near c cs e agree in
        let cell : m' c ≡ m c = sym (agree_head m m' c cs agree) in
        let mid : word_below m' w ≡ word_below m w = λ t i. sym (below_same layout m m' w i same.0) t in
        let end : word_below m' v ≡ word_below m v = λ t i. sym (below_same layout m m' v i same.1) t in
        ap (λ s. left_of number x cells s (word_below m' (head_word s (x / 64))) (word_below m' (word_below m' (head_word s (x / 64)) (x / 8 % 8)))) cell
        ∙ ap (λ (words : ℕ → ℕ). left_of number x cells (m c) words (word_below m' (words (x / 8 % 8)))) mid
        ∙ ap (λ (words : ℕ → ℕ). left_of number x cells (m c) (word_below m w) words) end

    -- a node that loses the child, where its children are the same and so is the split that stays
    lose_same : (p : Pointer) (cells : List (List ℕ)) → ((y : ℕ) → y < 256 → child_of (plain layout m' p) y ≡ child_of (plain layout m p) y)
        → split_stays number m' (split_cell p) x cells ≡ split_stays number m (split_cell p) x cells
        → lose_child layout number m' p x cells ≡ lose_child layout number m p x cells
    unfolding lose_child
    lose_same p cells child stays =
        let f : ℕ → ℕ = with_child (child_of (plain layout m' p)) x 0 in
        let g : ℕ → ℕ = with_child (child_of (plain layout m p)) x 0 in
        let same : (y : ℕ) → y < 256 → f y ≡ g y = λ y h. ap (λ w. cond (eqb y x) 0 w) (child y h) in
        of_kept_same f g same number _ (characters_from f 256 0) (left_characters (λ y. f y ≡ g y) same f 256 0 (omega arith)) cells
        ∙ ap (λ kept. of_kept number g (split_stays number m' (split_cell p) x cells) kept cells) (left_characters_same f g same 256 0 (omega arith))
        ∙ ap (λ (b : Built). of_kept number g b (characters_from g 256 0) cells) stays

    -- the children of a plain node
    child_frame : (p : Pointer) (X : Node) → plain layout m p ≡ some X → Agree m m' X.footprint
        → (y : ℕ) → y < 256 → child_of (plain layout m' p) y ≡ child_of (plain layout m p) y
    child_frame p X e agree y h =
        let f = plain_frame layout m m' p X e agree in
        child_of_lem (plain layout m' p) f.0 y f.1 ∙ sym (f.2.child y h) ∙ sym (child_of_lem (plain layout m p) X y e)

    lose_child_frame : (p : Pointer) (X : Node) → read_at layout m p ≡ some X → Agree m m' X.footprint → (cells : List (List ℕ))
        → lose_child layout number m' p x cells ≡ lose_child layout number m p x cells
    unfolding read_at split_cell split_stays
    lose_child_frame nothing X e agree cells = lose_same nothing cells (λ y h. unfold plain in refl) refl
    lose_child_frame (leaf v) X e agree cells = lose_same (leaf v) cells (λ y h. unfold plain in refl) refl
    lose_child_frame (chain c k) X e agree cells = lose_same (chain c k) cells (child_frame (chain c k) X e agree) refl
    lose_child_frame (split c) X e agree cells =
        let q = split_cut layout m c X e in
        lose_same (split c) cells (child_frame (split c) X e agree)
        (split_left_frame c q.0 q.2 (subst (λ (Z : Node). Agree m m' Z.footprint) (sym q.3) agree) cells)
    lose_child_frame (sparse c) X e agree cells = lose_same (sparse c) cells (child_frame (sparse c) X e agree) refl
    lose_child_frame (prefix c) X e agree cells = lose_same (prefix c) cells (λ y h. unfold plain in refl) refl
    lose_child_frame invalid X e agree cells = never e

    -- a child changed
    change_child_frame : (p : Pointer) (X : Node) → read_at layout m p ≡ some X → Agree m m' X.footprint → (b : Built)
        → change_child layout number m' p x b ≡ change_child layout number m p x b
    unfolding change_child
    change_child_frame p X e agree b =
        ap (λ (lost : Built). cond (eqb b.word 0) lost (set_child layout number m' p x b)) (lose_child_frame p X e agree b.cells)
        ∙ ap (λ (kept : Built). cond (eqb b.word 0) (lose_child layout number m p x b.cells) kept)
        (set_child_frame layout m m' number x near b p X e agree)

    -- one node of the path
    pub left_copy_frame : (w : ℕ) (X : Node) → read layout m w ≡ some X → Agree m m' X.footprint → (b : Built)
        → left_copy layout number m' w x b ≡ left_copy layout number m w x b
    left_copy_frame w X node agree b =
        let a = aside_alike w (pointer layout w) X refl (sym (read_is layout m w _ refl) ∙ node) agree in
        ap (λ v. put_back_left layout number v (change_child layout number m' (pointer layout (word_aside layout m' (pointer layout w) w)) x b)) a.value
        ∙ ap (λ u. put_back_left layout number (pointer_value m (pointer layout w)) (change_child layout number m' (pointer layout u) x b)) a.word
        ∙ ap (put_back_left layout number (pointer_value m (pointer layout w))) (change_child_frame _ a.bare a.reads a.agree b)

  -- the word at the key's end
  removed_at_frame : (w : ℕ) (X : Node) → read layout m w ≡ some X → Agree m m' X.footprint → removed_at layout m' w ≡ removed_at layout m w
  removed_at_frame w X node agree =
      let a = aside_alike w (pointer layout w) X refl (sym (read_is layout m w _ refl) ∙ node) agree in
      ap (λ u. unowned u []) a.word

module _ (layout : Layout) (small : layout.cells ≤ cell_limit) (m : Memory) (bytes : (c : ℕ) → IsBytes (m c)) (m' : Memory) where
  -- the removal framing law
  pub removal_frame : (number : ℕ → ℕ) (key : List ℕ) → IsBytes key → (d w : ℕ) (cs : List ℕ) → length key ≤ d
      → tree layout m d w ≡ some cs → Agree m m' cs → removal layout number m' w key ≡ removal layout number m w key
  unfolding removal
  removal_frame number key is_bytes d w cs fits found agree =
      path_frame layout small m bytes m' (left_copy layout number m) (left_copy layout number m') (removed_at layout m) (removed_at layout m')
      (λ w x near b X node here. left_copy_frame layout m m' number x near w X node here b) (removed_at_frame layout m m')
      key is_bytes d w cs fits found agree

  -- the cells needed are as many
  pub needed_to_remove_frame : (key : List ℕ) → IsBytes key → (d w : ℕ) (cs : List ℕ) → length key ≤ d → tree layout m d w ≡ some cs → Agree m m' cs
      → needed_to_remove layout m' w key ≡ needed_to_remove layout m w key
  unfolding needed_to_remove
  needed_to_remove_frame key is_bytes d w cs fits found agree =
      ap (λ (b : Built). length b.cells) (removal_frame (λ _. 1) key is_bytes d w cs fits found agree)
