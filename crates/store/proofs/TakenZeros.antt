-- 01: "A taken cell's meaningless bytes are zero": the cells of any build that is laid down, in the block that is left.
use mathlib.Core.Path.{◌≡◌, refl, sym, ap, ◌∙◌, subst}
use mathlib.Core.Bool.{true, false}
use mathlib.Core.List.{List, [], ◌∷◌}
use Prim.Native.Nat.{ℕ, zero, suc, ◌+◌, ◌-◌, ◌*◌, ◌/◌, ◌≤◌, ◌<◌}
use native.Mathlib.Omega.{arith}
use lib.ListN.{length}
use Rattle.cells.specs.Word.{word_at}
use Rattle.cells.specs.Memory.{memory_of}
use Rattle.cells.specs.Occurrences.{occurrences}
use Rattle.cells.proofs.Words.{word_same}
use Rattle.cells.proofs.Memory.{memory_length, memory_word}
use Rattle.nodes.specs.Layout.{Layout, usable}
use Rattle.nodes.proofs.Usable.{not_last}
use Rattle.updates.specs.Built.{Built}
use Rattle.updates.specs.Zeros.{AllClean, CleanBuild}
use Rattle.updates.proofs.Claims.{numbers, CellsStand}
use Rattle.updates.proofs.Count.{Numbering}
use Rattle.updates.proofs.Commit.{cells_stand, numbers_free, numbering_free}
use Rattle.blocks.specs.Trailer.{bad_size, root_at, layout_of, root_word}
use Rattle.blocks.proofs.Trailer.{sized, layout_cells}
use Rattle.store.specs.Free.{free}
use Rattle.store.specs.Insert.{cells_free}
use Rattle.store.specs.Committed.{numbering}
use Rattle.store.specs.TakenCells.{taken_bytes, CleanTaken}
use Rattle.store.specs.Laid.{Laid}
use Rattle.store.proofs.Free.{free-usable, free_once}

-- the free cells of a block of a good size are numbered
pub block_numbering : (b : List ℕ) → bad_size b ≡ false → Numbering (numbering b)
block_numbering b size =
    let s = sized b size in
    numbering_free (layout_of b) (free (layout_of b) b) (λ c h. free-usable (layout_of b) b c h) (omega (arith, s.least)) s.most

-- cells that stand in a block are those taken
taken_are : (layout : Layout) (number : ℕ → ℕ) (after : List ℕ) (cells : List (List ℕ)) → CellsStand layout number (memory_of after) cells
    → taken_bytes number after (length cells) ≡ cells
unfolding taken_bytes
taken_are layout number after [] standing = refl
taken_are layout number after (newest ∷ older) standing =
    let here : memory_of after (number (length older)) ≡ newest = standing.0.bytes in
    let rest : taken_bytes number after (length older) ≡ older = taken_are layout number after older standing.1 in
    λ i. here i ∷ rest i

-- a build laid down in the block that is left
module _ (b key : List ℕ) (x : Built) (count : ℕ) (after : List ℕ) (laid : Laid b key x count after) where
  -- the build's cells stand at the numbers taken
  pub taken_stand : length x.cells ≤ cells_free b → CellsStand (layout_of b) (numbering b) (memory_of after) x.cells
  taken_stand enough =
      let most : (c : ℕ) → occurrences c (numbers (numbering b) x.cells) ≤ occurrences c (free (layout_of b) b) =
      numbers_free (layout_of b) (free (layout_of b) b) x.cells enough in
      let usable_each : (c : ℕ) → 1 ≤ occurrences c (numbers (numbering b) x.cells) → usable (layout_of b) c ≡ true =
      λ c h. free-usable (layout_of b) b c (omega (arith, most c)) in
      cells_stand (numbering b) (memory_of b) (layout_of b) (memory_of after) x.cells usable_each
      (λ c. omega (arith, most c, free_once (layout_of b) b c))
      (λ c h. laid.cells c (λ e. not_last (layout_of b) c (usable_each c h) (omega (arith, e, layout_cells b))))

  -- so the cells taken are the build's
  taken_made : length x.cells ≤ cells_free b → taken_bytes (numbering b) after count ≡ x.cells
  taken_made enough =
      ap (taken_bytes (numbering b) after) laid.counted ∙ taken_are (layout_of b) (numbering b) after x.cells (taken_stand enough)

  -- and the root word is the build's
  pub root_made : layout_of after ≡ layout_of b → x.word < 4294967296 → root_word (layout_of after) after ≡ x.word
  unfolding root_word
  root_made same small =
      let last : ℕ = length b / 32 - 1 in
      let at : root_at (layout_of b) ≡ last * 32 + 0 = omega (arith, layout_cells b) in
      ap (λ (l : Layout). word_at after (root_at l)) same ∙ ap (word_at after) at
      ∙ sym (memory_word after last 0 (omega arith)) ∙ ap (λ (s : List ℕ). word_at s 0) laid.trailer
      ∙ word_same (memory_of b last) 0 x.word (omega (arith, memory_length b last)) small

  -- so that a clean build leaves clean cells
  pub taken_clean : length x.cells ≤ cells_free b → layout_of after ≡ layout_of b → x.word < 4294967296 → CleanBuild (numbering b) x
      → CleanTaken b after count
  taken_clean enough same small clean =
      subst (λ (w : ℕ). AllClean (numbering b) w (taken_bytes (numbering b) after count)) (sym (root_made same small))
      (subst (AllClean (numbering b) x.word) (sym (taken_made enough)) clean)

-- where cells are clean and their root word is NONE there are none
none_clean : (number : ℕ → ℕ) → Numbering number → (word : ℕ) (cells : List (List ℕ)) → AllClean number word cells → word ≡ 0 → length cells ≡ 0
none_clean number n word [] clean e = refl
none_clean number n word (newest ∷ older) clean e = absurd (omega (arith, e, clean.3, n.low (length older)))

taken_length : (number : ℕ → ℕ) (after : List ℕ) (count : ℕ) → length (taken_bytes number after count) ≡ count
unfolding taken_bytes
taken_length number after zero = refl
taken_length number after (suc place) = ap suc (taken_length number after place)

-- a call that leaves no tree takes no cell
pub none_taken : (b after : List ℕ) (count : ℕ) → bad_size b ≡ false → CleanTaken b after count → root_word (layout_of after) after ≡ 0 → count ≡ 0
none_taken b after count size clean e =
    sym (taken_length (numbering b) after count) ∙ none_clean (numbering b) (block_numbering b size) (root_word (layout_of after) after) (taken_bytes (numbering b) after count) clean e
