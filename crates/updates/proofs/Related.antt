-- Two builds of one change, under two numberings or in two memories: one law over every step, of which counts, bytes, numbers
-- and the cells needed are instances.
use mathlib.Core.Path.{◌≡◌, refl, sym, ap, ◌∙◌, subst}
use mathlib.Core.Bool.{Bool, true, false, cond}
use mathlib.Core.List.{List, [], ◌∷◌}
use mathlib.Core.Option.{Option, none, some}
use native.Mathlib.Omega.{arith}
use Prim.Native.Nat.{ℕ, zero, suc, ◌+◌, ◌-◌, ◌*◌, ◌/◌, ◌%◌, ◌≤◌, ◌<◌}
use lib.Dec.{eqb, ltb}
use lib.ListN.{length, set}
use Rattle.cells.specs.Word.{with_word}
use Rattle.cells.specs.Memory.{Memory}
use Rattle.cells.proofs.Choice.{absurd_bool, absurd_false}
use Rattle.nodes.specs.Layout.{Layout}
use Rattle.nodes.specs.Pointer.{Pointer, pointer, leaf_word, word_to}
use Rattle.nodes.specs.Pointer.Pointer.{nothing, leaf, chain, split, sparse, prefix, invalid}
use Rattle.nodes.specs.Chain.{chain_character, chain_child}
use Rattle.nodes.specs.Sparse.{some_word, sparse_count, position_of}
use Rattle.nodes.specs.Split.{head_word, word_below}
use Rattle.nodes.specs.Node.{read}
use Rattle.nodes.specs.Value.{pointer_value}
use Rattle.staging.specs.NewCells.{blank, chain_cell, prefix_cell, with_prefix, sparse_pair, replaced_cell, appended_cell, branch_copy, head_copy, with_words}
use Rattle.updates.specs.Built.{Built, unowned, allocate, room, room_of, first_used, first_used_of, character_before, chain_with, chain_over}
use Rattle.updates.specs.SplitBuild.{Row, branch_row, rows, end_row, mid_row, split_of, split_copied}
use Rattle.updates.specs.SetChild.{chain_set, sparse_set, set_child}
use Rattle.updates.specs.PrefixOver.{embeds, prefix_before, prefix_over}
use Rattle.updates.specs.Build.{word_aside, put_back, child_of, node_copy, path_copy, value_at, build}
use Rattle.updates.proofs.FreeBytes.{room_most, first_kind}
use Rattle.updates.proofs.PrefixNodes.Embedded.{embeds_parts, embeds_same}

-- what holds of every cell that a build writes, by the ways to write one; the characters of its key are `Character`
pub record Contents (m : Memory) (Character : ℕ → Type 0) (Content : List ℕ → Type 0) : Type 0 where
  pub chain : (x w : ℕ) → Character x → Content (chain_cell x w)
  pub character : (s : List ℕ) (k x : ℕ) → Character x → Content s → Content (set s k x)
  pub pair : (c k x w u : ℕ) → Character x → Content (sparse_pair x w (chain_character (m c) k) u)
  pub replaced : (c p w : ℕ) → Content (replaced_cell (m c) p w)
  pub appended : (c x w : ℕ) → Character x → Content (appended_cell (m c) x w)
  pub words : (ws : ℕ → ℕ) (count from : ℕ) → Content (with_words ws count from blank)
  pub branch_copied : (u at w : ℕ) → Content (with_word (branch_copy m u) at w)
  pub head_copied : (c at w : ℕ) → Content (with_word (head_copy (m c)) at w)
  pub prefixed : (v w : ℕ) → Content (prefix_cell v w)
  pub embedded : (s : List ℕ) (v w : ℕ) → Content s → Content (with_prefix s v (w % 32))

-- every character of a key is one
abbrev pub Characters : (ℕ → Type 0) → List ℕ → Type 0
Characters Character [] = Unit {0}
Characters Character (x ∷ key) = Character x × Characters Character key

-- words related where so many cells are allocated, and cells related at a place
pub record Relation (number number' : ℕ → ℕ) (Content : List ℕ → Type 0) (Words : ℕ → ℕ → ℕ → Type 0)
    (Cells : ℕ → List ℕ → List ℕ → Type 0) : Type 0 where
  pub old : (n w : ℕ) → Words n w w
  pub later : (n k w w' : ℕ) → n ≤ k → Words n w w' → Words k w w'
  pub new : (n kind : ℕ) → kind < 32 → Words (suc n) (word_to (number n) kind) (word_to (number' n) kind)
  pub both_none : (n w w' : ℕ) → Words n w w' → eqb w 0 ≡ eqb w' 0
  pub room : (n w w' : ℕ) (own : Bool) → Words n w w' → room own w ≡ room own w'
  pub first_used : (n w w' : ℕ) (own : Bool) → Words n w w' → first_used own w ≡ first_used own w'
  pub of_word : (n w w' : ℕ) (f : ℕ → List ℕ) → ((u : ℕ) → Content (f u)) → Words n w w' → Cells n (f w) (f w')
  pub of_words : (n : ℕ) (ws ws' : ℕ → ℕ) (f : (ℕ → ℕ) → List ℕ) → ((us : ℕ → ℕ) → Content (f us)) → ((y : ℕ) → Words n (ws y) (ws' y))
      → Cells n (f ws) (f ws')
  pub of_cell : (n : ℕ) (s s' : List ℕ) (f : List ℕ → List ℕ) → ((t : List ℕ) → Content t → Content (f t)) → Cells n s s' → Cells n (f s) (f s')

-- words that are NONE at the same places have a pointer among them together
pub some_same : (words words' : ℕ → ℕ) → ((y : ℕ) → eqb (words y) 0 ≡ eqb (words' y) 0) → (count from : ℕ) → some_word words count from ≡ some_word words' count from
unfolding some_word
some_same words words' h zero from = refl
some_same words words' h (suc count) from = rw (h from, some_same words words' h count (from + 1))

module _ (Words : ℕ → ℕ → ℕ → Type 0) (Cells : ℕ → List ℕ → List ℕ → Type 0) where
  -- the cells allocated are related one by one
  abbrev pub EachCell : List (List ℕ) → List (List ℕ) → Type 0
  EachCell [] [] = Unit {0}
  EachCell [] (s' ∷ rest') = ⊥
  EachCell (s ∷ rest) [] = ⊥
  EachCell (s ∷ rest) (s' ∷ rest') = Cells (length rest) s s' × EachCell rest rest'

  pub record Related (b b' : Built) : Type 0 where
    pub own : b.own ≡ b'.own
    pub word : Words (length b.cells) b.word b'.word
    pub cells : EachCell b.cells b'.cells

  -- the same of rows made after some cells
  pub record RowsRelated (before : ℕ) (r r' : Row) : Type 0 where
    pub more : before ≤ length r.cells
    pub words : (y : ℕ) → Words (length r.cells) (r.words y) (r'.words y)
    pub cells : EachCell r.cells r'.cells

  pub each_count : (cells cells' : List (List ℕ)) → EachCell cells cells' → length cells ≡ length cells'
  each_count [] [] h = refl
  each_count [] (s' ∷ rest') h = absurd h
  each_count (s ∷ rest) [] h = absurd h
  each_count (s ∷ rest) (s' ∷ rest') h = ap suc (each_count rest rest' h.1)

  pub related_count : (b b' : Built) → Related b b' → length b.cells ≡ length b'.cells
  related_count b b' r = each_count b.cells b'.cells r.cells

  -- related builds are the same where related words and cells are, as they may be up to so many cells only
  module _ (Within : ℕ → Type 0) (fewer : (i k : ℕ) → i ≤ k → Within k → Within i)
      (same_word : (n w w' : ℕ) → Words n w w' → Within n → w ≡ w') (same_cell : (n : ℕ) (s s' : List ℕ) → Cells n s s' → Within (suc n) → s ≡ s') where
    cells_same : (cells cells' : List (List ℕ)) → EachCell cells cells' → Within (length cells) → cells ≡ cells'
    cells_same [] [] h within = refl
    cells_same [] (s' ∷ rest') h within = absurd h
    cells_same (s ∷ rest) [] h within = absurd h
    cells_same (s ∷ rest) (s' ∷ rest') h within =
        let first : s ≡ s' = same_cell (length rest) s s' h.0 within in
        let older : rest ≡ rest' = cells_same rest rest' h.1 (fewer _ _ (omega arith) within) in
        ap (λ z. z ∷ rest) first ∙ ap (λ z. s' ∷ z) older

    pub same_built : (b b' : Built) → Related b b' → Within (length b.cells) → b ≡ b'
    same_built b b' r within =
        let word : b.word ≡ b'.word = same_word _ _ _ r.word within in
        let own : b.own ≡ b'.own = r.own in
        let cells : b.cells ≡ b'.cells = cells_same b.cells b'.cells r.cells within in
        λ t. record { word = word t; own = own t; cells = cells t }

  -- two path copies, each in its memory and by its rules: they go down by the same words, and each node and the end are copied alike
  module _ (layout : Layout) (m m' : Memory) (copy copy' : ℕ → ℕ → Built → Built) (at_end at_end' : ℕ → Built) where
    abbrev pub Along : ℕ → List ℕ → Type 0
    Along word [] = Related (at_end word) (at_end' word)
    Along word (x ∷ key) =
        (child_of (read layout m word) x ≡ child_of (read layout m' word) x)
        × ((b b' : Built) → Related b b' → Related (copy word x b) (copy' word x b'))
        × Along (child_of (read layout m word) x) key

    -- the relational law of a path
    pub paths_related : (word : ℕ) (key : List ℕ) → Along word key
        → Related (path_copy layout m copy at_end word key) (path_copy layout m' copy' at_end' word key)
    unfolding path_copy
    paths_related word [] along = along
    paths_related word (x ∷ key) along =
        along.1 _ _
        (subst (λ (u : ℕ). Related (path_copy layout m copy at_end (child_of (read layout m word) x) key) (path_copy layout m' copy' at_end' u key)) along.0
        (paths_related (child_of (read layout m word) x) key along.2))

  module _ (number number' : ℕ → ℕ) (m : Memory) (Character : ℕ → Type 0) (Content : List ℕ → Type 0)
      (contents : Contents m Character Content) (relation : Relation number number' Content Words Cells) where
    pub cond_related : (t : Bool) {a b a' b' : Built} → Related a a' → Related b b' → Related (cond t a b) (cond t a' b')
    cond_related true p q = p
    cond_related false p q = q

    pub cond_words : (n : ℕ) (t : Bool) (u v u' v' : ℕ) → Words n u u' → Words n v v' → Words n (cond t u v) (cond t u' v')
    cond_words n true u v u' v' p q = p
    cond_words n false u v u' v' p q = q

    -- the word of a new cell, where as many are allocated before it
    pub new_word : (kind : ℕ) (cells cells' : List (List ℕ)) → kind < 32 → EachCell cells cells'
        → Words (suc (length cells)) (word_to (number (length cells)) kind) (word_to (number' (length cells')) kind)
    new_word kind cells cells' h e =
        subst (λ n. Words (suc (length cells)) (word_to (number (length cells)) kind) (word_to (number' n) kind)) (each_count cells cells' e)
        (relation.new (length cells) kind h)

    pub allocate-related : (kind : ℕ) (s s' : List ℕ) (cells cells' : List (List ℕ)) → kind < 32 → Cells (length cells) s s' → EachCell cells cells'
        → Related (allocate number kind s cells) (allocate number' kind s' cells')
    unfolding allocate
    allocate-related kind s s' cells cells' h newest e = record { own = refl; word = new_word kind cells cells' h e; cells = (newest, e) }

    -- a cell with one word of the build below in it
    pub over_related : (kind : ℕ) (f : ℕ → List ℕ) (b b' : Built) → kind < 32 → ((u : ℕ) → Content (f u)) → Related b b'
        → Related (allocate number kind (f b.word) b.cells) (allocate number' kind (f b'.word) b'.cells)
    over_related kind f b b' h content r =
        allocate-related kind _ _ b.cells b'.cells h (relation.of_word (length b.cells) b.word b'.word f content r.word) r.cells

    -- a split, by its rows
    rows_related : (make make' : ℕ → List (List ℕ) → Row) (least : ℕ)
        → ((i : ℕ) (cells cells' : List (List ℕ)) → least ≤ length cells → EachCell cells cells' → RowsRelated (length cells) (make i cells) (make' i cells'))
        → (count i : ℕ) (cells cells' : List (List ℕ)) → least ≤ length cells → EachCell cells cells'
        → RowsRelated (length cells) (rows make count i cells) (rows make' count i cells')
    unfolding rows
    rows_related make make' least h zero i cells cells' low e = record { more = omega arith; words = λ y. relation.old (length cells) 0; cells = e }
    rows_related make make' least h (suc count) i cells cells' low e =
        let made = h i cells cells' low e in
        let low_made : least ≤ length (make i cells).cells = omega (arith, made.more) in
        let after = rows_related make make' least h count (i + 1) (make i cells).cells (make' i cells').cells low_made made.cells in
        record {
          more = omega (arith, made.more, after.more);
          words = λ y. cond_words _ (eqb y i) _ _ _ _ (relation.later _ _ _ _ after.more (made.words 0)) (after.words y);
          cells = after.cells;
        }

    pub branch_related : (words words' : ℕ → ℕ) (cells cells' : List (List ℕ)) → ((y : ℕ) → Words (length cells) (words y) (words' y))
        → EachCell cells cells' → RowsRelated (length cells) (branch_row number words cells) (branch_row number' words' cells')
    unfolding branch_row
    branch_related words words' cells cells' h e =
        rw (some_same words words' (λ y. relation.both_none (length cells) (words y) (words' y) (h y)) 8 0) (go (some_word words' 8 0))
      where
        go : (t : Bool)
            → RowsRelated (length cells)
            (cond t (record { words = λ _. word_to (number (length cells)) 28; cells = with_words words 8 0 blank ∷ cells }) (record { words = λ _. 0; cells = cells }))
            (cond t (record { words = λ _. word_to (number' (length cells')) 28; cells = with_words words' 8 0 blank ∷ cells' }) (record { words = λ _. 0; cells = cells' }))
        go true =
            record {
              more = omega arith;
              words = λ y. new_word 28 cells cells' (omega arith) e;
              cells = (relation.of_words (length cells) words words' (λ ws. with_words ws 8 0 blank) (λ ws. contents.words ws 8 0) h, e);
            }
        go false = record { more = omega arith; words = λ y. relation.old (length cells) 0; cells = e }

    module _ (child child' : ℕ → ℕ) (least : ℕ) (h : (y : ℕ) → Words least (child y) (child' y)) where
      end_related : (i j : ℕ) (cells cells' : List (List ℕ)) → least ≤ length cells → EachCell cells cells'
          → RowsRelated (length cells) (end_row number child i j cells) (end_row number' child' i j cells')
      unfolding end_row
      end_related i j cells cells' low e =
          branch_related _ _ cells cells' (λ k. relation.later _ _ _ _ low (h (64 * i + 8 * j + k))) e

      mid_related : (i : ℕ) (cells cells' : List (List ℕ)) → least ≤ length cells → EachCell cells cells'
          → RowsRelated (length cells) (mid_row number child i cells) (mid_row number' child' i cells')
      unfolding mid_row
      mid_related i cells cells' low e =
          let ends = rows_related (end_row number child i) (end_row number' child' i) least (end_related i) 8 0 cells cells' low e in
          let made : Row = rows (end_row number child i) 8 0 cells in
          let made' : Row = rows (end_row number' child' i) 8 0 cells' in
          let table = branch_related made.words made'.words made.cells made'.cells ends.words ends.cells in
          record { more = omega (arith, ends.more, table.more); words = table.words; cells = table.cells }

      split_of-related : (cells cells' : List (List ℕ)) → least ≤ length cells → EachCell cells cells'
          → Related (split_of number child cells) (split_of number' child' cells')
      unfolding split_of
      split_of-related cells cells' low e =
          let mids = rows_related (mid_row number child) (mid_row number' child') least mid_related 4 0 cells cells' low e in
          allocate-related 28 _ _ _ _ (omega arith)
          (relation.of_words _ _ _ (λ ws. with_words (λ p. ws (p - 4)) 4 4 blank) (λ ws. contents.words (λ p. ws (p - 4)) 4 4) mids.words) mids.cells

    -- a chain, by the room before it
    with_related : (x place : ℕ) (b b' : Built) → Character x → place < 33 → Related b b'
        → Related (chain_with number x b.word place b.cells) (chain_with number' x b'.word place b'.cells)
    unfolding chain_with character_before
    with_related x zero b b' is h r = over_related 27 (chain_cell x) b b' (omega arith) (λ u. contents.chain x u is) r
    with_related x (suc place) b b' is h r = before b.word b'.word b.cells b'.cells r.word r.cells
      where
        before : (word word' : ℕ) (cells cells' : List (List ℕ)) → Words (length cells) word word' → EachCell cells cells'
            → Related (character_before number x word place cells) (character_before number' x word' place cells')
        before word word' [] [] w e =
            allocate-related 27 _ _ [] [] (omega arith) (relation.of_word 0 word word' (chain_cell x) (λ u. contents.chain x u is) w) e
        before word word' [] (s' ∷ rest') w e = absurd e
        before word word' (s ∷ rest) [] w e = absurd e
        before word word' (s ∷ rest) (s' ∷ rest') w e =
            record {
              own = refl;
              word = new_word place rest rest' (omega arith) e.1;
              cells = (relation.of_cell (length rest) s s' (λ t. set t place x) (λ t c. contents.character t place x is c) e.0, e.1);
            }

    -- as much room, and the same first byte used
    pub related_room : (b b' : Built) → Related b b' → room_of b ≡ room_of b'
    related_room b b' r =
        relation.room (length b.cells) b.word b'.word b.own r.word ∙ ap (λ own. room own b'.word) r.own

    related_first_used : (b b' : Built) → Related b b' → first_used_of b ≡ first_used_of b'
    related_first_used b b' r =
        relation.first_used (length b.cells) b.word b'.word b.own r.word ∙ ap (λ own. first_used own b'.word) r.own

    chain_over-related : (x : ℕ) (b b' : Built) → Character x → Related b b' → Related (chain_over number x b) (chain_over number' x b')
    unfolding chain_over
    chain_over-related x b b' is r =
        subst (λ (k : ℕ). Related (chain_with number x b.word (room_of b) b.cells) (chain_with number' x b'.word k b'.cells)) (related_room b b' r)
        (with_related x (room_of b) b b' is (omega (arith, room_most b.own b.word)) r)

    -- a child set, by the node's kind
    chain_set-related : (c place x : ℕ) (b b' : Built) → Character x → Related b b'
        → Related (chain_set number (m c) c place x b) (chain_set number' (m c) c place x b')
    unfolding chain_set
    chain_set-related c place x b b' is r =
        cond_related (eqb x (chain_character (m c) place)) (chain_over-related x b b' is r)
        (over_related 30 (λ w. sparse_pair x w (chain_character (m c) place) (chain_child (m c) c place)) b b' (omega arith)
        (λ w. contents.pair c place x w (chain_child (m c) c place) is) r)

    sparse_set-related : (c x : ℕ) (b b' : Built) → Character x → Related b b' → Related (sparse_set number (m c) x b) (sparse_set number' (m c) x b')
    unfolding sparse_set
    sparse_set-related c x b b' is r =
        cond_related (ltb (position_of (m c) (sparse_count (m c)) 0 x) (sparse_count (m c)))
        (over_related 30 (replaced_cell (m c) (position_of (m c) (sparse_count (m c)) 0 x)) b b' (omega arith) (λ w. contents.replaced c _ w) r)
        (cond_related (ltb (sparse_count (m c)) 6)
        (over_related 30 (appended_cell (m c) x) b b' (omega arith) (λ w. contents.appended c x w is) r)
        (split_of-related _ _ (length b.cells)
        (λ y. cond_words _ (eqb y x) _ _ _ _ r.word (relation.old _ _)) b.cells b'.cells (omega arith) r.cells))

    split_copied-related : (c x : ℕ) (b b' : Built) → Related b b' → Related (split_copied number m c x b) (split_copied number' m c x b')
    unfolding split_copied
    split_copied-related c x b b' r =
        let mid : ℕ = head_word (m c) (x / 64) in
        let end : ℕ = word_below m mid (x / 8 % 8) in
        let with_end =
        over_related 28 (with_word (branch_copy m end) (4 * (x % 8))) b b' (omega arith) (λ w. contents.branch_copied end (4 * (x % 8)) w) r in
        let with_mid =
        over_related 28 (with_word (branch_copy m mid) (4 * (x / 8 % 8))) _ _ (omega arith) (λ w. contents.branch_copied mid (4 * (x / 8 % 8)) w) with_end in
        unfold allocate in
        over_related 28 (with_word (head_copy (m c)) (16 + 4 * (x / 64))) _ _ (omega arith) (λ w. contents.head_copied c (16 + 4 * (x / 64)) w) with_mid

    module _ (layout : Layout) where
      pub set_child-related : (p : Pointer) (x : ℕ) (b b' : Built) → Character x → Related b b'
          → Related (set_child layout number m p x b) (set_child layout number' m p x b')
      unfolding set_child
      set_child-related nothing x b b' is r = chain_over-related x b b' is r
      set_child-related (leaf v) x b b' is r = chain_over-related x b b' is r
      set_child-related (chain c k) x b b' is r = chain_set-related c k x b b' is r
      set_child-related (split c) x b b' is r = split_copied-related c x b b' r
      set_child-related (sparse c) x b b' is r = sparse_set-related c x b b' is r
      set_child-related (prefix c) x b b' is r = r
      set_child-related invalid x b b' is r = r

      -- a value over a build: it is embedded in both or in neither, and at the same offset
      before_related : (v w w' : ℕ) (cells cells' : List (List ℕ)) → w % 32 ≡ w' % 32 → Words (length cells) w w' → EachCell cells cells'
          → Related (prefix_before number v w cells) (prefix_before number' v w' cells')
      unfolding prefix_before
      before_related v w w' [] [] kind word e =
          allocate-related 31 _ _ [] [] (omega arith) (relation.of_word 0 w w' (prefix_cell v) (λ u. contents.prefixed v u) word) tt
      before_related v w w' [] (s' ∷ rest') kind word e = absurd e
      before_related v w w' (s ∷ rest) [] kind word e = absurd e
      before_related v w w' (s ∷ rest) (s' ∷ rest') kind word e =
          record {
            own = refl;
            word = new_word 31 rest rest' (omega arith) e.1;
            cells = (
              subst (λ k. Cells (length rest) (with_prefix s v (w % 32)) (with_prefix s' v k)) kind
                  (relation.of_cell (length rest) s s' (λ t. with_prefix t v (w % 32)) (λ t content. contents.embedded t v w content) e.0),
              e.1,
            );
          }

      prefix_over-related : (v : ℕ) (b b' : Built) → Related b b' → Related (prefix_over layout number v b) (prefix_over layout number' v b')
      unfolding prefix_over
      prefix_over-related v b b' r = go (embeds layout b.own b.word) refl (embeds layout b'.own b'.word) (sym same)
        where
          same : embeds layout b.own b.word ≡ embeds layout b'.own b'.word
          same = embeds_same layout b.own b'.own b.word b'.word (related_first_used b b' r)

          go : (t : Bool) → embeds layout b.own b.word ≡ t → (t' : Bool) → t' ≡ t
              → Related (cond t (prefix_before number v b.word b.cells) (allocate number 31 (prefix_cell v b.word) b.cells))
              (cond t' (prefix_before number' v b'.word b'.cells) (allocate number' 31 (prefix_cell v b'.word) b'.cells))
          go true t true both =
              before_related v b.word b'.word b.cells b'.cells
              (first_kind b.own b'.own b.word b'.word (related_room b b' r) (related_first_used b b' r)
              (omega (arith, (embeds_parts layout b.own b.word t).1))) r.word r.cells
          go true t false both = absurd_false both
          go false t true both = absurd_bool both
          go false t false both = over_related 31 (prefix_cell v) b b' (omega arith) (λ w. contents.prefixed v w) r

      pub put_back-related : (value : Option ℕ) (b b' : Built) → Related b b' → Related (put_back layout number value b) (put_back layout number' value b')
      unfolding put_back
      put_back-related none b b' r = r
      put_back-related (some v) b b' r = prefix_over-related v b b' r

      -- in one memory under two numberings a path is copied alike, where the rules at its end are related
      along_numbers : (at_end at_end' : ℕ → Built) → ((word : ℕ) → Related (at_end word) (at_end' word)) → (word : ℕ) (key : List ℕ) → Characters Character key
          → Along layout m m (node_copy layout number m) (node_copy layout number' m) at_end at_end' word key
      along_numbers at_end at_end' h word [] is = h word
      along_numbers at_end at_end' h word (x ∷ key) is = (
        refl,
        λ b b' r.
            put_back-related (pointer_value m (pointer layout word)) _ _
            (set_child-related (pointer layout (word_aside layout m (pointer layout word) word)) x b b' is.0 r),
        along_numbers at_end at_end' h (child_of (read layout m word) x) key is.1,
      )

      -- the build of one insertion, where the leaf and the prefix of its value are related
      module _ (value value' : ℕ) (leaves : Words 0 (leaf_word value) (leaf_word value'))
          (prefixes : (word : ℕ) → Cells 0 (prefix_cell value word) (prefix_cell value' word)) where
        leaf_related : Related (unowned (leaf_word value) []) (unowned (leaf_word value') [])
        leaf_related = record { own = refl; word = leaves; cells = tt }

        prefix_related : (word : ℕ) → Related (allocate number 31 (prefix_cell value word) []) (allocate number' 31 (prefix_cell value' word) [])
        prefix_related word = allocate-related 31 _ _ [] [] (omega arith) (prefixes word) tt

        value_at-related : (p : Pointer) (word : ℕ) → Related (value_at layout number m value p word) (value_at layout number' m value' p word)
        unfolding value_at
        value_at-related nothing word = leaf_related
        value_at-related (leaf v) word = leaf_related
        value_at-related (chain c k) word = prefix_related word
        value_at-related (split c) word = prefix_related word
        value_at-related (sparse c) word = prefix_related word
        value_at-related (prefix c) word = prefix_related _
        value_at-related invalid word = leaf_related

        pub build-related : (root : ℕ) (key : List ℕ) → Characters Character key
            → Related (build layout number m root key value) (build layout number' m root key value')
        unfolding build
        build-related root key is =
            paths_related layout m m _ _ _ _ root key (along_numbers _ _ (λ word. value_at-related (pointer layout word) word) root key is)
