-- What a call that changes one key leaves and counts where it is done, and when it lacks room: said of the build that it
-- lays down, of the cells that this takes and of what may be asked of the call.
use Rattle.std.specs.Prelude.{◌≡◌, ◌≢◌, true, false, List, ℕ, ◌+◌, ◌-◌, ◌*◌, ◌/◌, ◌≤◌, ◌<◌, leb, length}
use Rattle.std.proofs.Math.Option.{none}
use Rattle.cells.specs.Word.{with_word}
use Rattle.cells.specs.Memory.{memory_of}
use Rattle.cells.specs.Occurrences.{occurrences, select}
use Rattle.trees.specs.Root.{root_cells}
use Rattle.updates.specs.Built.{Built}
use Rattle.updates.specs.Commit.{memory_with}
use Rattle.blocks.specs.Trailer.{bad_size, layout_of, root_word}
use Rattle.blocks.specs.Sound.{sound}
use Rattle.blocks.specs.Refusal.{bad_key, bad_new_key, bad_value}
use Rattle.blocks.specs.Read.{shown}
use Rattle.store.specs.Free.{free}
use Rattle.store.specs.Insert.{cells_free}
use Rattle.store.specs.Committed.{numbering}

-- the cells that a block's root reaches
abbrev pub root_reaches : List ℕ → List ℕ
root_reaches block = root_cells (layout_of block) (memory_of block) (root_word (layout_of block) block)

-- 00: "an accepted entry leaves and counts the cells that 01's build lays down"
pub record Laid (block key : List ℕ) (build : Built) (count : ℕ) (after : List ℕ) : Type 0 where
  -- the allocated cells hold the build's bytes and every other cell its old ones
  pub cells : (c : ℕ) → c ≢ length block / 32 - 1 → memory_of after c ≡ memory_with (numbering block) (memory_of block) build.cells c
  -- in the trailer only the root word moves
  pub trailer : memory_of after (length block / 32 - 1) ≡ with_word (memory_of block (length block / 32 - 1)) 0 build.word
  pub counted : count ≡ length build.cells
  -- 01: "for m label bytes at most 4m + 10"
  pub most : count ≤ 4 * length key + 10
  -- 01: "which are the cells of the new tree that were free before"
  pub newly : count ≡ length (select (λ c. leb 1 (occurrences c (root_reaches after))) (free (layout_of block) block))

-- 00: "'No room' comes exactly when no answer checked before it applies and the build laid down for that entry takes more
-- cells than there are usable ones that neither root nor any held mark reaches"
pub record Lacks (block : List ℕ) (MayAsk : Type 0) (needed : ℕ) : Type 0 where
  pub size : bad_size block ≡ false
  pub valid : sound block ≡ true
  pub may : MayAsk
  pub more : cells_free block < needed

-- the same where there is room
pub record Finds (block : List ℕ) (MayAsk : Type 0) (needed : ℕ) : Type 0 where
  pub size : bad_size block ≡ false
  pub valid : sound block ≡ true
  pub may : MayAsk
  pub enough : needed ≤ cells_free block

-- an insertion to which neither 3 nor 4 applies
pub record MayInsert (key : List ℕ) (value : ℕ) : Type 0 where
  pub good_key : bad_new_key key ≡ false
  pub good_value : bad_value value ≡ false

-- a removal to which neither 3 nor 11 applies
pub record MayRemove (block key : List ℕ) : Type 0 where
  pub good_key : bad_key key ≡ false
  pub there : shown block key ≢ none
