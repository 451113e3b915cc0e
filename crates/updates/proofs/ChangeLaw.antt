-- A change of a key put into a memory at the numbers of free cells: the new root's tree and table, and that nothing else changes.
use mathlib.Core.Path.{◌≡◌, refl, sym, ◌∙◌, subst}
use mathlib.Core.Bool.{true}
use mathlib.Core.List.{List}
use mathlib.Core.Option.{Option, some}
use Prim.Native.Nat.{ℕ, ◌+◌, ◌≤◌, ◌<◌}
use native.Mathlib.Decide.{dec_le}
use native.Mathlib.Omega.{arith}
use lib.Dec.{leb}
use lib.ListN.{length}
use borrow.Author.Tests.{le-leb, lt-leb}
use Rattle.cells.specs.Bytes.{IsBytes}
use Rattle.cells.specs.Memory.{Memory}
use Rattle.cells.specs.Occurrences.{occurrences, select}
use Rattle.cells.proofs.Occurrences.{Agree}
use Rattle.nodes.specs.Layout.{Layout, usable, cell_limit}
use Rattle.nodes.specs.Pointer.{pointer}
use Rattle.trees.specs.Tree.{tree}
use Rattle.trees.specs.Lookup.{lookup, assign}
use Rattle.trees.specs.Entries.{entries}
use Rattle.trees.specs.Root.{is_root}
use Rattle.trees.proofs.Frame.{tree_frame, lookup_frame, entries_frame}
use Rattle.trees.proofs.Usable.{tree-usable}
use Rattle.updates.specs.Built.{Built, first_used_of}
use Rattle.updates.specs.Build.{node_copy, path_copy, inserted_at, build}
use Rattle.staging.specs.Numbering.{number_from}
use Rattle.updates.specs.Commit.{memory_with}
use Rattle.updates.proofs.Claims.{numbers, BuildStands, cells_stand_from, TreeChanged, Rooted, NodeLaw, EndLaw}
use Rattle.updates.proofs.Commit.{memory_with_other, cells_stand, numbers_free}
use Rattle.updates.proofs.PrefixNodes.KeyEnd.{value_at_end}
use Rattle.updates.proofs.PrefixNodes.NodeCopy.{set_law}
use Rattle.updates.proofs.PathLaw.{path_law}
use Rattle.updates.proofs.Taken.{taken_count}

-- the cells that a build takes of a list of free ones
abbrev pub taken : Layout → List ℕ → Built → List ℕ
taken layout free b = numbers (number_from layout free) b.cells

-- a word has the same tree in both memories, and the same table and pairs
pub record Untouched (layout : Layout) (m m' : Memory) (d w : ℕ) (cs : List ℕ) : Type 0 where
  pub valid : tree layout m' d w ≡ some cs
  pub table : (k : List ℕ) → lookup layout m' w k ≡ lookup layout m w k
  pub pairs : entries layout m' d w ≡ entries layout m d w

-- a key changed at the word w, whose tree was `cs`: it has what is given, a value or none, and `b` is the build
pub record KeyChanged (layout : Layout) (free : List ℕ) (m m' : Memory) (d w : ℕ) (cs key : List ℕ) (given : Option ℕ) (b : Built) : Type 0 where
  pub cells : List ℕ
  pub valid : tree layout m' d b.word ≡ some cells
  -- no cell is visited twice where none was
  pub once : ((c : ℕ) → occurrences c cs ≤ 1) → (c : ℕ) → occurrences c cells ≤ 1
  -- the cells visited are old ones and each of those taken
  pub most : (c : ℕ) → occurrences c cells ≤ occurrences c cs + occurrences c (taken layout free b)
  pub least : (c : ℕ) → occurrences c (taken layout free b) ≤ occurrences c cells
  pub newly : (c : ℕ) → 1 ≤ occurrences c free → 1 ≤ occurrences c cells → 1 ≤ occurrences c (taken layout free b)
  -- of the free cells as many are now visited as were allocated
  pub count : length (select (λ c. leb 1 (occurrences c cells)) free) ≡ length b.cells
  pub table : (k : List ℕ) → lookup layout m' b.word k ≡ assign (lookup layout m w) key given k
  -- the old tree's cells keep their bytes, and any word whose tree has none of the cells taken keeps its tree
  pub kept : Agree m m' cs
  pub others : (d' w' : ℕ) (cs' : List ℕ) → tree layout m d' w' ≡ some cs'
      → ((c : ℕ) → 1 ≤ occurrences c cs' → occurrences c (taken layout free b) ≡ 0)
      → Untouched layout m m' d' w' cs'
  -- the new root is one
  pub root : 1 ≤ length key → is_root (pointer layout w) ≡ true → Rooted layout b

-- two lists with nothing in common, each number at most once in either
apart_once : (old new both : ℕ) → both ≤ old + new → old ≤ 1 → new ≤ 1 → (1 ≤ old → new ≡ 0) → both ≤ 1
apart_once old new both most old_once new_once apart = elim (dec_le 1 old) [
  | yes h ↦ omega (arith, apart h)
  | no h ↦ omega arith
]

-- free is a list of usable cells, none of them twice; the memories differ in usable cells by the allocated ones at their numbers
module _ (layout : Layout) (small : layout.cells ≤ cell_limit) (free : List ℕ) (each : (c : ℕ) → 1 ≤ occurrences c free → usable layout c ≡ true)
    (once : (c : ℕ) → occurrences c free ≤ 1) (m m' : Memory) (bytes : (c : ℕ) → IsBytes (m c)) (whole : (c : ℕ) → length (m c) ≡ 32) where
  module _ (b : Built) (enough : length b.cells ≤ length free)
      (same : (c : ℕ) → usable layout c ≡ true → m' c ≡ memory_with (number_from layout free) m b.cells c) where
    -- no cell is taken more often than it is free
    free_most : (c : ℕ) → occurrences c (taken layout free b) ≤ occurrences c free
    free_most = numbers_free layout free b.cells enough

    -- the allocated cells stand, and a tree that has none of them is as it was
    stand : BuildStands layout (number_from layout free) m' b
    stand =
        cells_stand_from layout (number_from layout free) m' (first_used_of b) b.cells
        (cells_stand (number_from layout free) m layout m' b.cells
        (λ c h. each c (omega (arith, free_most c)))
        (λ c. omega (arith, once c, free_most c))
        (λ c h. same c (each c (omega (arith, free_most c)))))

    alike : (d w : ℕ) (cs : List ℕ) → tree layout m d w ≡ some cs → ((c : ℕ) → 1 ≤ occurrences c cs → occurrences c (taken layout free b) ≡ 0)
        → Agree m m' cs
    alike d w cs found avoids c h =
        sym (same c (tree-usable layout m d w cs found c h) ∙ memory_with_other (number_from layout free) m b.cells c (avoids c h))

    untouched : (d w : ℕ) (cs : List ℕ) → tree layout m d w ≡ some cs → ((c : ℕ) → 1 ≤ occurrences c cs → occurrences c (taken layout free b) ≡ 0)
        → Untouched layout m m' d w cs
    untouched d w cs found avoids =
        let agree = alike d w cs found avoids in
        record {
          valid = tree_frame layout small m bytes m' d w cs found agree;
          table = λ k. lookup_frame layout small m bytes m' k d w cs found agree;
          pairs = entries_frame layout small m bytes m' d w cs found agree;
        }

  -- the law of a change of a key at a word whose tree has none of the free cells, from that of its path copy
  module _ (copy : ℕ → ℕ → Built → Built) (at_end : ℕ → Built) (assigned : Option ℕ)
      (nodes : NodeLaw layout (number_from layout free) m m' copy assigned) (ends : EndLaw layout (number_from layout free) m m' at_end assigned) where
    pub change_law : (key : List ℕ) → IsBytes key → (d w : ℕ) (cs : List ℕ) → length key ≤ d
        → tree layout m d w ≡ some cs → ((c : ℕ) → 1 ≤ occurrences c cs → occurrences c free ≡ 0)
        → (b : Built) → path_copy layout m copy at_end w key ≡ b → length b.cells ≤ length free
        → ((c : ℕ) → usable layout c ≡ true → m' c ≡ memory_with (number_from layout free) m b.cells c)
        → KeyChanged layout free m m' d w cs key assigned b
    change_law key is_bytes d w cs fits found apart b is enough same =
        let number : ℕ → ℕ = number_from layout free in
        let less : (c : ℕ) → occurrences c (taken layout free b) ≤ occurrences c free = free_most b enough same in
        let avoids : (c : ℕ) → 1 ≤ occurrences c cs → occurrences c (taken layout free b) ≡ 0 = λ c h. omega (arith, apart c h, less c) in
        let agree : Agree m m' cs = alike b enough same d w cs found avoids in
        let standing : BuildStands layout (number_from layout free) m' b = stand b enough same in
        let standing_copy : BuildStands layout (number_from layout free) m' (path_copy layout m copy at_end w key) =
        subst (λ (c : Built). BuildStands layout (number_from layout free) m' c) (sym is) standing in
        let copied = path_law layout small number m m' bytes copy at_end assigned nodes ends key is_bytes d w cs fits found agree standing_copy in
        let tree_changed = subst (λ (c : Built). TreeChanged layout (number_from layout free) m m' d w cs key assigned c) is copied.0 in
        let newly : (c : ℕ) → 1 ≤ occurrences c free → 1 ≤ occurrences c tree_changed.cells → 1 ≤ occurrences c (taken layout free b) =
        λ c is_free visited. elim (dec_le 1 (occurrences c cs)) [
          | yes h ↦ absurd (omega (arith, apart c h))
          | no h ↦ omega (arith, tree_changed.most c)
        ] in
        record {
          cells = tree_changed.cells;
          valid = tree_changed.valid;
          once = λ old c. apart_once (occurrences c cs) (occurrences c (taken layout free b)) (occurrences c tree_changed.cells) (tree_changed.most c) (old c)
              (omega (arith, once c, less c)) (avoids c);
          most = tree_changed.most;
          least = tree_changed.least;
          newly = newly;
          count = taken_count layout free once b.cells enough (λ c. leb 1 (occurrences c tree_changed.cells))
              (λ c h. le-leb 1 (occurrences c tree_changed.cells) (omega (arith, tree_changed.least c)))
              (λ c is_free none. lt-leb 1 (occurrences c tree_changed.cells) (elim (dec_le 1 (occurrences c tree_changed.cells)) [
                | yes visited ↦ absurd (omega (arith, newly c is_free visited))
                | no h ↦ omega arith
              ]));
          table = tree_changed.table;
          kept = agree;
          others = untouched b enough same;
          root = λ some_key was_root. subst (λ (c : Built). Rooted layout c) is (copied.1 some_key was_root);
        }

  -- an insertion is one use of it
  pub insert_law : (value : ℕ) → value < 2147483648 → (key : List ℕ) → IsBytes key → (d w : ℕ) (cs : List ℕ) → length key ≤ d
      → tree layout m d w ≡ some cs → ((c : ℕ) → 1 ≤ occurrences c cs → occurrences c free ≡ 0)
      → length (build layout (number_from layout free) m w key value).cells ≤ length free
      → ((c : ℕ) → usable layout c ≡ true → m' c ≡ memory_with (number_from layout free) m (build layout (number_from layout free) m w key value).cells c)
      → KeyChanged layout free m m' d w cs key (some value) (build layout (number_from layout free) m w key value)
  unfolding build
  insert_law value clear key is_bytes d w cs fits found apart enough same =
      change_law (node_copy layout (number_from layout free) m) (inserted_at layout (number_from layout free) m value) (some value)
      (set_law layout small (number_from layout free) m m' bytes whole value)
      (λ d w cs found agree standing. value_at_end layout small (number_from layout free) m m' bytes d w cs found agree value clear standing)
      key is_bytes d w cs fits found apart _ refl enough same
