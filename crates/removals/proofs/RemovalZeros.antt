-- 01: "A taken cell's meaningless bytes are zero": of every build of a removal from a valid tree.
use mathlib.Core.Path.{◌≡◌, refl, sym, ap, ◌∙◌, subst}
use mathlib.Core.Logic.{◌⊎◌, inl, inr, ⊎_elim}
use mathlib.Core.Bool.{Bool, true, false, cond}
use mathlib.Core.List.{List, [], ◌∷◌}
use mathlib.Core.Option.{Option, none, some}
use native.Mathlib.Decide.{ℕ_discrete, dec_lt}
use native.Mathlib.Omega.{arith}
use Prim.Native.Nat.{ℕ, zero, suc, ◌+◌, ◌-◌, ◌*◌, ◌/◌, ◌%◌, ◌≤◌, ◌<◌}
use lib.Dec.{leb}
use lib.ListN.{length}
use borrow.Author.Tests.{eq-eqb, ne_eqb, leb-true}
use Rattle.cells.specs.Bytes.{IsBytes}
use Rattle.cells.specs.Word.{with_word}
use Rattle.cells.specs.Memory.{Memory}
use Rattle.cells.proofs.Choice.{never}
use Rattle.cells.proofs.Words.{bytes_tail, word_same}
use Rattle.nodes.specs.Layout.{Layout}
use Rattle.nodes.specs.Pointer.{Pointer, pointer, leaf_word}
use Rattle.nodes.specs.Pointer.Pointer.{leaf}
use Rattle.nodes.specs.Split.{split_cell, head_word, word_below}
use Rattle.nodes.specs.Node.{Node, childless, plain, read_at, read}
use Rattle.nodes.specs.Value.{pointer_value}
use Rattle.nodes.proofs.Pointers.{pointer_leaf}
use Rattle.nodes.proofs.Frame.{read_is}
use Rattle.trees.specs.Tree.{tree}
use Rattle.trees.proofs.Tree.{tree_cut, tree_below}
use Rattle.staging.specs.NewCells.{chain_cell, head_copy}
use Rattle.staging.proofs.CellBytes.{word_cell, head_copy_cell}
use Rattle.staging.proofs.CellZeros.{chain_zero, head_copy_zero}
use Rattle.updates.specs.Built.{Built, unowned, allocate}
use Rattle.updates.specs.SplitBuild.{Row, branch_row}
use Rattle.updates.specs.SetChild.{with_child}
use Rattle.updates.specs.Build.{word_aside, child_of, path_copy}
use Rattle.updates.specs.Zeros.{Leads, EachClean, AllClean, CleanBuild}
use Rattle.updates.specs.Zeros.Use.{chain_from, sparse_use, head_use, mid_use, end_use}
use Rattle.updates.proofs.Count.{Numbering}
use Rattle.updates.proofs.ChainNodes.Chains.{chain_cell-length}
use Rattle.updates.proofs.PrefixNodes.Aside.{child_of_lem, aside}
use Rattle.updates.proofs.Zeros.Known.{chain_clean, sparse_clean, head_clean, Either, known_else, CleanBuilt, allocate_each}
use Rattle.updates.proofs.Zeros.SplitZeros.{Made, mid_branch, end_branch, branch_each}
use Rattle.updates.proofs.BuildZeros.{set_child_clean, put_back_clean}
use Rattle.removals.specs.RisingCell.{characters_from, rising_cell}
use Rattle.removals.specs.SplitLeft.{split_left}
use Rattle.removals.specs.LoseChild.{of_kept, split_stays, lose_child}
use Rattle.removals.specs.Removal.{change_child, put_back_left, left_copy, removed_at, removal}
use Rattle.removals.proofs.RisingCell.{rising_count, rising_zero}

-- a node with no value is named by a word below the leaves
word_below_leaves : (layout : Layout) (m : Memory) (w : ℕ) (X : Node) → read layout m w ≡ some X → X.value ≡ none → w < 2147483648
unfolding read_at
word_below_leaves layout m w X node empty = elim (dec_lt w 2147483648) [
  | yes below ↦ below
  | no above ↦
      let named : read layout m w ≡ some (childless (some (4294967295 - w))) = read_is layout m w (leaf (4294967295 - w)) (pointer_leaf layout w (omega arith)) in
      let is : childless (some (4294967295 - w)) ≡ X = cc in
      never (sym empty ∙ ap (λ (Z : Node). Z.value) (sym is))
]

module _ (number : ℕ → ℕ) (n : Numbering number) where
  -- what a removal leaves: NONE and no cell, or a word and clean cells
  abbrev Left : Built → Type 0
  Left b = ((b.word ≡ 0) × (b.cells ≡ [])) ⊎ CleanBuilt number n b

  -- no word is known
  abbrev Unknown : ℕ → ℕ → Type 0
  Unknown to word = ⊥

  module _ (m : Memory) where
    -- a split that stays one, where nothing was allocated before: new end, mid and head
    split_left_clean : (c x : ℕ) → x < 256 → CleanBuilt number n (split_left number m c x [])
    unfolding split_left
    split_left_clean c x near =
        let mid : ℕ = head_word (m c) (x / 64) in
        let end : ℕ = word_below m mid (x / 8 % 8) in
        let new_end : Row = branch_row number (with_child (word_below m end) (x % 8) 0) [] in
        let e : ℕ = new_end.words 0 in
        let mid_words : ℕ → ℕ = with_child (word_below m mid) (x / 8 % 8) e in
        let new_mid : Row = branch_row number mid_words new_end.cells in
        let d : ℕ = new_mid.words 0 in
        let head : List ℕ = with_word (head_copy (m c)) (0x10 + 4 * (x / 64)) d in
        let there : mid_words (x / 8 % 8) ≡ e = rw (eq-eqb (x / 8 % 8) (x / 8 % 8) refl) in
        let ends : EachClean number (Either Unknown (Made end_use e)) new_end.cells =
        branch_each number n end_use end_branch Unknown Unknown (with_child (word_below m end) (x % 8) 0) [] (λ to word some small h. inl h) tt in
        let mids : EachClean number (Either Unknown (Made mid_use d)) new_mid.cells =
        branch_each number n mid_use mid_branch (Either Unknown (Made end_use e)) Unknown mid_words new_end.cells
        (λ to word some small h. ⊎_elim (λ none. inl none) (λ a. inr (a.0, x / 8 % 8, omega arith, there ∙ a.1)) h) ends in
        allocate_each number n head_use head new_mid.cells (λ low. (word_cell (head_copy (m c)) (0x10 + 4 * (x / 64)) d (head_copy_cell (m c))).size)
        (head_clean head (λ i before. head_copy_zero (m c) (0x10 + 4 * (x / 64)) d i before (omega arith))) refl
        (known_else number n (Either Unknown (Made mid_use d)) (Leads head_use head)
        (λ to word some small h.
        ⊎_elim (λ none. absurd none)
        (λ a. (
          a.0,
          (
            x / 64,
            omega arith,
            word_same (head_copy (m c)) (0x10 + 4 * (x / 64)) d (omega (arith, (head_copy_cell (m c)).size)) (omega (arith, a.1, small)) ∙ a.1,
          ),
        )) h)
        new_mid.cells mids)

    split_stays_clean : (o : Option ℕ) (x : ℕ) → x < 256 → Left (split_stays number m o x [])
    unfolding split_stays
    split_stays_clean none x near = inl (refl, refl)
    split_stays_clean (some c) x near = inr (split_left_clean c x near)

  -- a node of the children kept, by how many they are
  of_kept_clean : (child : ℕ → ℕ) (stays : Built) → Left stays → (kept : List ℕ) → Left (of_kept number child stays kept [])
  unfolding of_kept
  of_kept_clean child stays many [] = inl (refl, refl)
  of_kept_clean child stays many (x ∷ []) =
      inr (allocate_each number n (chain_from 27) (chain_cell x (child x)) [] (λ low. chain_cell-length x (child x))
      (chain_clean 27 (chain_cell x (child x)) (omega arith) (λ i before. chain_zero x (child x) i before)) refl tt)
  of_kept_clean child stays many (x ∷ y ∷ more) = go (leb (length more) 4) refl
    where
      go : (t : Bool) → leb (length more) 4 ≡ t → Left (cond t (allocate number 30 (rising_cell child (x ∷ y ∷ more)) []) stays)
      go true e =
          let few : length more ≤ 4 = leb-true (length more) 4 e in
          let count = rising_count child (x ∷ y ∷ more) (omega arith) (omega arith) in
          inr (allocate_each number n sparse_use (rising_cell child (x ∷ y ∷ more)) [] (λ low. absurd (omega arith))
          (sparse_clean (rising_cell child (x ∷ y ∷ more))
          (λ i low high. rising_zero child (x ∷ y ∷ more) (omega arith) (omega arith) i (omega (arith, count)) high)) refl tt)
      go false e = many

  -- a leaf over no cell
  leaf_left : (v : ℕ) → v < 2147483648 → (cells : List (List ℕ)) → cells ≡ [] → CleanBuilt number n (unowned (leaf_word v) cells)
  unfolding leaf_word
  leaf_left v clear cells empty =
      subst (λ (none : List (List ℕ)). CleanBuilt number n (unowned (4294967295 - v) none)) (sym empty)
      (record { nonzero = omega arith; small = omega arith; clean = tt; whole = λ low. tt })

  module _ (layout : Layout) (m : Memory) (whole : (c : ℕ) → length (m c) ≡ 32) where
    lose_child_clean : (p : Pointer) (x : ℕ) → x < 256 → Left (lose_child layout number m p x [])
    unfolding lose_child
    lose_child_clean p x near =
        of_kept_clean (with_child (child_of (plain layout m p)) x 0) (split_stays number m (split_cell p) x []) (split_stays_clean m (split_cell p) x near)
        (characters_from (with_child (child_of (plain layout m p)) x 0) 256 0)

    -- a child changed: lost where nothing is left of it, else set
    change_child_clean : (p : Pointer) (Y : Node) → read_at layout m p ≡ some Y → (x : ℕ) → x < 256 → (b : Built) → Left b
        → Left (change_child layout number m p x b)
    unfolding change_child
    change_child_clean p Y reads x near b (inl h) =
        rw (eq-eqb b.word 0 h.0) (subst (λ (cells : List (List ℕ)). Left (lose_child layout number m p x cells)) (sym h.1) (lose_child_clean p x near))
    change_child_clean p Y reads x near b (inr built) =
        rw (ne_eqb b.word 0 built.nonzero) (inr (set_child_clean number n layout m whole p Y reads x near b built))

    -- the value over it: a leaf over NONE
    put_back_left_clean : (value : Option ℕ) → ((v : ℕ) → value ≡ some v → v < 2147483648) → (b : Built) → Left b → Left (put_back_left layout number value b)
    unfolding put_back_left
    put_back_left_clean none clear b h = h
    put_back_left_clean (some v) clear b (inl h) = rw (eq-eqb b.word 0 h.0) (inr (leaf_left v (clear v refl) b.cells h.1))
    put_back_left_clean (some v) clear b (inr built) =
        rw (ne_eqb b.word 0 built.nonzero) (inr (put_back_clean number n layout m whole (some v) b built))

    -- what is left at the key's end is NONE or an old word
    removed_at_clean : (w : ℕ) (X : Node) → read layout m w ≡ some X → Left (removed_at layout m w)
    removed_at_clean w X node =
        let bare = aside layout m w X node in
        let small = word_below_leaves layout m (word_aside layout m (pointer layout w) w) bare.bare bare.reads bare.empty in
        elim (ℕ_discrete (word_aside layout m (pointer layout w) w) 0) [
          | yes nothing_left ↦ inl (nothing_left, refl)
          | no other ↦ inr (record { nonzero = other; small = omega (arith, small); clean = tt; whole = λ low. tt })
        ]

    -- the path of a key, copied over what is left
    path_clean : (key : List ℕ) → IsBytes key → (d w : ℕ) (cs : List ℕ) → length key ≤ d → tree layout m d w ≡ some cs
        → Left (path_copy layout m (left_copy layout number m) (removed_at layout m) w key)
    unfolding path_copy
    path_clean [] is_bytes d w cs fits found = let q = tree_cut layout m d w cs found in removed_at_clean w q.0 q.2
    path_clean (x ∷ key) is_bytes zero w cs fits found = absurd (omega arith)
    path_clean (x ∷ key) is_bytes (suc d) w cs fits found =
        let near : x < 256 = is_bytes.below 0 in
        let q = tree_cut layout m (suc d) w cs found in
        let l = tree_below layout m d w x cs q.0 near found q.2 in
        let bare = aside layout m w q.0 q.2 in
        put_back_left_clean (pointer_value m (pointer layout w)) bare.clear _
        (change_child_clean (pointer layout (word_aside layout m (pointer layout w) w)) bare.bare (sym (read_is layout m _ _ refl) ∙ bare.reads) x near _
        (path_clean key (bytes_tail x key is_bytes) d (child_of (read layout m w) x) l.0 (omega arith)
        (ap (tree layout m d) (child_of_lem (read layout m w) q.0 x q.2) ∙ l.1)))

-- the build of one removal: its cells are clean, and its word is one of 32 bits
module _ (number : ℕ → ℕ) (n : Numbering number) (layout : Layout) (m : Memory) (whole : (c : ℕ) → length (m c) ≡ 32)
    (key : List ℕ) (is_bytes : IsBytes key) (d root : ℕ) (cs : List ℕ) (fits : length key ≤ d) (found : tree layout m d root ≡ some cs) where
  removal-left : Left number n (removal layout number m root key)
  unfolding removal
  removal-left = path_clean number n layout m whole key is_bytes d root cs fits found

  pub removal_clean : CleanBuild number (removal layout number m root key)
  removal_clean =
      ⊎_elim (λ h. subst (AllClean number (removal layout number m root key).word) (sym h.1) tt) (λ built. built.clean) removal-left

  pub removal_small : (removal layout number m root key).word < 4294967296
  removal_small = ⊎_elim (λ h. omega (arith, h.0)) (λ built. built.small) removal-left
