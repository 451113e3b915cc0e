-- One step down by a character, read from the cells on its way alone, so that it has an answer in any memory.
use Rattle.std.specs.Prelude.{List, ℕ, ◌/◌, ◌%◌, eqb, cond}
use Rattle.std.proofs.Math.Option.{Option, none, some}
use Rattle.cells.specs.Memory.{Memory}
use Rattle.nodes.specs.Layout.{Layout}
use Rattle.nodes.specs.Pointer.{Pointer, pointer}
use Rattle.nodes.specs.Pointer.Pointer.{nothing, leaf, chain, split, sparse, prefix, invalid}
use Rattle.nodes.specs.Chain.{chain_character, chain_child}
use Rattle.nodes.specs.Sparse.{valid_sparse, sparse_child}
use Rattle.nodes.specs.Split.{head_word, branch_word, valid_head, valid_branch, split_cell}
use Rattle.nodes.specs.Prefix.{prefix_link, valid_prefix}

pub data Step : Type 0 where
  found : ℕ → Step  -- the child word
  missing : Step  -- there is no child
  broken : Step  -- a rule is broken on the way

-- a child word, which is missing where it is NONE
unfoldable pub word_step : ℕ → Step
word_step word = cond (eqb word 0) missing (found word)

-- a second step from the word that the first one found
unfoldable pub onward : Step → (ℕ → Step) → Step
onward (found word) next = next word
onward missing next = missing
onward broken next = broken

-- at a place of a chain cell
unfoldable pub chain_step : List ℕ → ℕ → ℕ → ℕ → Step
chain_step bytes cell place x =
    cond (eqb (chain_child bytes cell place) 0) broken
    (cond (eqb x (chain_character bytes place)) (found (chain_child bytes cell place)) missing)

-- in a sparse cell
unfoldable pub sparse_step : List ℕ → ℕ → Step
sparse_step bytes x = cond (valid_sparse bytes) (word_step (sparse_child bytes x)) broken

-- in the mid or end that a word names
unfoldable pub branch_in : Memory → Option ℕ → ℕ → Step
branch_in m none i = broken
branch_in m (some c) i = cond (valid_branch (m c)) (word_step (branch_word (m c) i)) broken

unfoldable pub branch_step : Layout → Memory → ℕ → ℕ → Step
branch_step layout m word i = branch_in m (split_cell (pointer layout word)) i

-- in a split: its head, then a mid, then an end
unfoldable pub split_step : Layout → Memory → ℕ → ℕ → Step
split_step layout m c x =
    cond (valid_head (m c))
    (onward (word_step (head_word (m c) (x / 64)))
    (λ mid. onward (branch_step layout m mid (x / 8 % 8)) (λ end. branch_step layout m end (x % 8))))
    broken

-- at a chain, sparse or split
unfoldable pub plain_step : Layout → Memory → Pointer → ℕ → Step
plain_step layout m nothing x = broken
plain_step layout m (leaf v) x = broken
plain_step layout m (chain c k) x = chain_step (m c) c k x
plain_step layout m (split c) x = split_step layout m c x
plain_step layout m (sparse c) x = sparse_step (m c) x
plain_step layout m (prefix c) x = broken
plain_step layout m invalid x = broken

-- at a prefix
unfoldable pub prefix_step : Layout → Memory → ℕ → ℕ → Step
prefix_step layout m c x = cond (valid_prefix layout (m c)) (plain_step layout m (pointer layout (prefix_link c (m c))) x) broken

-- at any pointer
unfoldable pub step_at : Layout → Memory → Pointer → ℕ → Step
step_at layout m nothing x = missing
step_at layout m (leaf v) x = missing
step_at layout m (chain c k) x = plain_step layout m (chain c k) x
step_at layout m (split c) x = plain_step layout m (split c) x
step_at layout m (sparse c) x = plain_step layout m (sparse c) x
step_at layout m (prefix c) x = prefix_step layout m c x
step_at layout m invalid x = broken

-- at the node that a word names
unfoldable pub child_step : Layout → Memory → ℕ → ℕ → Step
child_step layout m word x = step_at layout m (pointer layout word) x
