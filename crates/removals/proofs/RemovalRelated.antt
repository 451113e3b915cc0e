-- Two removals of one key in one memory under two numberings are related: the relational law of each step that the insertion has not.
use mathlib.Core.Path.{refl, subst}
use mathlib.Core.Bool.{Bool, true, false, cond}
use mathlib.Core.List.{List, [], ◌∷◌}
use mathlib.Core.Option.{Option, none, some}
use native.Mathlib.Omega.{arith}
use Prim.Native.Nat.{ℕ, zero, suc, ◌+◌, ◌*◌, ◌/◌, ◌%◌, ◌≤◌, ◌<◌}
use lib.Dec.{eqb, leb}
use lib.ListN.{length}
use Rattle.cells.specs.Word.{with_word}
use Rattle.cells.specs.Memory.{Memory}
use Rattle.nodes.specs.Layout.{Layout}
use Rattle.nodes.specs.Pointer.{Pointer, pointer, leaf_word}
use Rattle.nodes.specs.Split.{head_word, split_cell, word_below}
use Rattle.nodes.specs.Node.{plain, read}
use Rattle.nodes.specs.Value.{pointer_value}
use Rattle.staging.specs.NewCells.{chain_cell, head_copy}
use Rattle.updates.specs.Built.{Built, unowned, allocate}
use Rattle.updates.specs.SplitBuild.{Row, branch_row}
use Rattle.updates.specs.SetChild.{with_child}
use Rattle.updates.specs.Build.{word_aside, child_of}
use Rattle.updates.proofs.Related.{Contents, Characters, Relation, EachCell, Related, Along, paths_related, cond_related, cond_words, allocate-related, branch_related, set_child-related, put_back-related}
use Rattle.removals.specs.RisingCell.{characters_from, rising_cell}
use Rattle.removals.specs.SplitLeft.{split_left}
use Rattle.removals.specs.LoseChild.{of_kept, split_stays, lose_child}
use Rattle.removals.specs.Removal.{change_child, put_back_left, left_copy, removed_at, removal}

-- what holds beside of what a removal writes: a character kept in a node is one, and the sparse cell of those that a node keeps holds it
pub record LeftContents (layout : Layout) (m : Memory) (Character : ℕ → Type 0) (Content : List ℕ → Type 0) : Type 0 where
  pub near : (x : ℕ) → x < 256 → Character x
  pub rising : (p : Pointer) (x : ℕ)
      → Content (rising_cell (with_child (child_of (plain layout m p)) x 0) (characters_from (with_child (child_of (plain layout m p)) x 0) 256 0))

-- the characters that have a child are characters, where those below 256 are
module _ (Character : ℕ → Type 0) where
  cond_characters : (t : Bool) (x : ℕ) (later : List ℕ) → Character x → Characters Character later → Characters Character (cond t later (x ∷ later))
  cond_characters true x later is each = each
  cond_characters false x later is each = (is, each)

  pub left_characters : ((x : ℕ) → x < 256 → Character x) → (child : ℕ → ℕ) (count from : ℕ) → from + count ≤ 256
      → Characters Character (characters_from child count from)
  unfolding characters_from
  left_characters near child zero from h = tt
  left_characters near child (suc count) from h =
      cond_characters (eqb (child from) 0) from (characters_from child count (from + 1)) (near from (omega arith))
      (left_characters near child count (from + 1) (omega arith))

module _ (Words : ℕ → ℕ → ℕ → Type 0) (Cells : ℕ → List ℕ → List ℕ → Type 0) (number number' : ℕ → ℕ) (m : Memory) (Character : ℕ → Type 0)
    (Content : List ℕ → Type 0) (contents : Contents m Character Content) (relation : Relation number number' Content Words Cells) where
  -- a word of the memory, or NONE, is the same in both
  word_related : (word : ℕ) (cells cells' : List (List ℕ)) → EachCell Words Cells cells cells' → Related Words Cells (unowned word cells) (unowned word cells')
  word_related word cells cells' e = record { own = refl; word = relation.old (length cells) word; cells = e }

  -- two ways on, by whether what is left below is NONE: it is so in both or in neither
  none_related : (b b' : Built) → Related Words Cells b b' → {p q p' q' : Built} → Related Words Cells p p' → Related Words Cells q q'
      → Related Words Cells (cond (eqb b.word 0) p q) (cond (eqb b'.word 0) p' q')
  none_related b b' r {p} {q} {p'} {q'} lost kept =
      subst (λ (t : Bool). Related Words Cells (cond (eqb b.word 0) p q) (cond t p' q'))
      (relation.both_none (length b.cells) b.word b'.word r.word)
      (cond_related Words Cells number number' m Character Content contents relation (eqb b.word 0) lost kept)

  -- a cell of the memory's words only
  alone_related : (kind : ℕ) (s : List ℕ) (cells cells' : List (List ℕ)) → kind < 32 → Content s → EachCell Words Cells cells cells'
      → Related Words Cells (allocate number kind s cells) (allocate number' kind s cells')
  alone_related kind s cells cells' small content e =
      allocate-related Words Cells number number' m Character Content contents relation kind s s cells cells' small
      (relation.of_word (length cells) 0 0 (λ _. s) (λ _. content) (relation.old (length cells) 0)) e

  -- a node of the children that are kept, by how many they are
  of_kept-related : (child : ℕ → ℕ) (stays stays' : Built) (kept : List ℕ) (cells cells' : List (List ℕ)) → Characters Character kept
      → Content (rising_cell child kept) → Related Words Cells stays stays' → EachCell Words Cells cells cells'
      → Related Words Cells (of_kept number child stays kept cells) (of_kept number' child stays' kept cells')
  unfolding of_kept
  of_kept-related child stays stays' [] cells cells' is rising r e = word_related 0 cells cells' e
  of_kept-related child stays stays' (x ∷ []) cells cells' is rising r e =
      alone_related 27 (chain_cell x (child x)) cells cells' (omega arith) (contents.chain x (child x) is.0) e
  of_kept-related child stays stays' (x ∷ y ∷ more) cells cells' is rising r e =
      cond_related Words Cells number number' m Character Content contents relation (leb (length more) 4)
      (alone_related 30 (rising_cell child (x ∷ y ∷ more)) cells cells' (omega arith) rising e) r

  -- a split without the child
  split_left-related : (c x : ℕ) (cells cells' : List (List ℕ)) → EachCell Words Cells cells cells'
      → Related Words Cells (split_left number m c x cells) (split_left number' m c x cells')
  unfolding split_left
  split_left-related c x cells cells' e =
      let mid : ℕ = head_word (m c) (x / 64) in
      let end : ℕ = word_below m mid (x / 8 % 8) in
      let row : Row = branch_row number (with_child (word_below m end) (x % 8) 0) cells in
      let row' : Row = branch_row number' (with_child (word_below m end) (x % 8) 0) cells' in
      let ends =
      branch_related Words Cells number number' m Character Content contents relation _ _ cells cells'
      (λ y. relation.old (length cells) (with_child (word_below m end) (x % 8) 0 y)) e in
      let mids =
      branch_related Words Cells number number' m Character Content contents relation
      (with_child (word_below m mid) (x / 8 % 8) (row.words 0)) (with_child (word_below m mid) (x / 8 % 8) (row'.words 0)) row.cells row'.cells
      (λ y.
      cond_words Words Cells number number' m Character Content contents relation _ (eqb y (x / 8 % 8)) _ _ _ _ (ends.words 0)
      (relation.old _ (word_below m mid y))) ends.cells in
      allocate-related Words Cells number number' m Character Content contents relation 28 _ _ _ _ (omega arith)
      (relation.of_word _ _ _ (with_word (head_copy (m c)) (16 + 4 * (x / 64))) (λ w. contents.head_copied c (16 + 4 * (x / 64)) w) (mids.words 0))
      mids.cells

  split_stays-related : (found : Option ℕ) (x : ℕ) (cells cells' : List (List ℕ)) → EachCell Words Cells cells cells'
      → Related Words Cells (split_stays number m found x cells) (split_stays number' m found x cells')
  unfolding split_stays
  split_stays-related none x cells cells' e = word_related 0 cells cells' e
  split_stays-related (some c) x cells cells' e = split_left-related c x cells cells' e

  module _ (layout : Layout) (left : LeftContents layout m Character Content) where
    -- a node that loses a child
    pub lose_child-related : (p : Pointer) (x : ℕ) (cells cells' : List (List ℕ)) → EachCell Words Cells cells cells'
        → Related Words Cells (lose_child layout number m p x cells) (lose_child layout number' m p x cells')
    unfolding lose_child
    lose_child-related p x cells cells' e =
        let child : ℕ → ℕ = with_child (child_of (plain layout m p)) x 0 in
        of_kept-related child _ _ (characters_from child 256 0) cells cells' (left_characters Character left.near child 256 0 (omega arith))
        (left.rising p x) (split_stays-related (split_cell p) x cells cells' e) e

    -- a child changed
    pub change_child-related : (p : Pointer) (x : ℕ) (b b' : Built) → Character x → Related Words Cells b b'
        → Related Words Cells (change_child layout number m p x b) (change_child layout number' m p x b')
    unfolding change_child
    change_child-related p x b b' is r =
        none_related b b' r (lose_child-related p x b.cells b'.cells r.cells)
        (set_child-related Words Cells number number' m Character Content contents relation layout p x b b' is r)

    -- a value over what is left
    pub put_back_left-related : (value : Option ℕ) (b b' : Built) → Related Words Cells b b'
        → Related Words Cells (put_back_left layout number value b) (put_back_left layout number' value b')
    unfolding put_back_left
    put_back_left-related none b b' r = r
    put_back_left-related (some v) b b' r =
        none_related b b' r (word_related (leaf_word v) b.cells b'.cells r.cells)
        (put_back-related Words Cells number number' m Character Content contents relation layout (some v) b b' r)

    -- one node of the path
    pub left_related : (word x : ℕ) (b b' : Built) → Character x → Related Words Cells b b'
        → Related Words Cells (left_copy layout number m word x b) (left_copy layout number' m word x b')
    left_related word x b b' is r =
        put_back_left-related (pointer_value m (pointer layout word)) _ _
        (change_child-related (pointer layout (word_aside layout m (pointer layout word) word)) x b b' is r)

    along_left : (word : ℕ) (key : List ℕ) → Characters Character key
        → Along Words Cells layout m m (left_copy layout number m) (left_copy layout number' m) (removed_at layout m) (removed_at layout m) word key
    along_left word [] is = word_related (word_aside layout m (pointer layout word) word) [] [] tt
    along_left word (x ∷ key) is = (
      refl,
      λ b b' r. left_related word x b b' is.0 r,
      along_left (child_of (read layout m word) x) key is.1,
    )

    -- the removal of one key
    pub removal-related : (root : ℕ) (key : List ℕ) → Characters Character key
        → Related Words Cells (removal layout number m root key) (removal layout number' m root key)
    unfolding removal
    removal-related root key is = paths_related Words Cells layout m m _ _ _ _ root key (along_left root key is)
