-- What is known where a block is to be changed at a key.
use Rattle.std.specs.Prelude.{◌≡◌, Result, Ok, Err, Bool, true, false, cond, List, ℕ, ◌+◌, ◌*◌, ◌≤◌, ◌<◌, leb, length, get_or, take}
use Rattle.cells.specs.Writes.{written}
use Rattle.nodes.specs.Layout.{Layout, key_limit}
use Rattle.staging.specs.Code.Stage.{stage_cells}
use Rattle.staging.specs.declared.stage.BuildState.{BuildState}
use Rattle.updates.specs.Built.{Built}
use Rattle.updates.specs.Code.Staged.{built_of}
use Rattle.blocks.specs.Trailer.{bad_size, layout_of}
use Rattle.blocks.specs.Sound.{sound_with, sound}
use Rattle.blocks.specs.Refusal.{Counted}
use Rattle.blocks.specs.Answers.{refusal_number}
use Rattle.blocks.specs.declared.answer.Refusal.{Refusal}
use Rattle.store.specs.Free.{free}
use Rattle.store.specs.Committed.{commit_writes, refused_call}
use Rattle.store.specs.Code.Unstamped.{Listed}

-- the first free cells of a block, as many as a build can take, stand at the start of an array
abbrev pub FreeListed : Layout → List ℕ → List ℕ → ℕ → Type 0
FreeListed layout block numbers count = Listed numbers count (take stage_cells (free layout block))

-- a block judged: its free cells listed and counted where it is sound, and else 2
abbrev pub FreeAnswer : Layout → List ℕ → List ℕ → Result ℕ Refusal → Type 0
FreeAnswer layout block numbers (Ok count) = (sound_with layout block ≡ true) × FreeListed layout block numbers count
FreeAnswer layout block numbers (Err refusal) = (sound_with layout block ≡ false) × (refusal_number refusal ≡ 2)

-- a sound block whose layout and free cells are known, and a key that is not over long: what the build of a change asks for
pub record Changeable (layout : Layout) (block numbers : List ℕ) (count : ℕ) (key : List ℕ) : Type 0 where
  pub stated : layout ≡ layout_of block
  pub size : bad_size block ≡ false
  pub valid : sound block ≡ true
  pub listed : FreeListed layout block numbers count
  pub short : length key ≤ key_limit

-- a build in the stage, and whether as many cells are free
pub record InStage (layout : Layout) (block : List ℕ) (b : Built) (made : BuildState) (stage : List ℕ) (fits : Bool) : Type 0 where
  pub built : built_of made stage ≡ b
  pub fitting : fits ≡ leb made.count (length (free layout block))

-- what the call then does: the build committed and its cells counted, or else 7
unfoldable pub staged_outcome : Layout → List ℕ → List ℕ → BuildState → List ℕ → Bool → Counted
staged_outcome layout block numbers made stage fits =
    cond fits
    (record { answer = 0; count = made.count; block = written block (commit_writes layout (λ i. get_or numbers i 0) (built_of made stage)) })
    (refused_call 7 block)

-- the cells of the first so many numbers lie inside so many bytes
abbrev pub Inside : List ℕ → ℕ → ℕ → Type 0
Inside numbers count size = (i : ℕ) → i < count → get_or numbers i 0 * 32 + 32 ≤ size
