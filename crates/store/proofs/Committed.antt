-- A block after the writes of a build: the allocated cells stand at free numbers, in the trailer only the root word moves,
-- and whatever was reachable is as it was. This holds of any build that the free cells are enough for.
use mathlib.Core.Path.{◌≡◌, sym, ap, ◌∙◌, subst}
use mathlib.Core.Logic.{◌≢◌}
use mathlib.Core.Bool.{true}
use mathlib.Core.List.{List, [], ◌∷◌}
use Prim.Native.Nat.{ℕ, ◌+◌, ◌-◌, ◌*◌, ◌/◌, ◌%◌, ◌≤◌, ◌<◌}
use native.Mathlib.Omega.{arith}
use lib.ListN.{length, get_or}
use Rattle.cells.specs.Bytes.{IsBytes}
use Rattle.cells.specs.Word.{with_word}
use Rattle.cells.specs.Memory.{memory_of}
use Rattle.cells.specs.Writes.{written}
use Rattle.cells.specs.Occurrences.{occurrences}
use Rattle.cells.proofs.Words.{word_same, byte_other}
use Rattle.cells.proofs.Memory.{memory_written_same, memory_written_other}
use Rattle.cells.proofs.CellWrites.{written-length, written_bytes, written-append}
use Rattle.nodes.specs.Layout.{is_trailer}
use Rattle.nodes.proofs.Usable.{trailer_some, trailer_is, not_last}
use Rattle.updates.specs.Built.{Built}
use Rattle.updates.specs.Commit.{build_writes, memory_with}
use Rattle.updates.proofs.BuildBytes.{Whole}
use Rattle.updates.proofs.Commit.{memory_with_other, numbers_free, free_written}
use Rattle.blocks.specs.Trailer.{root_at, layout_of, root_word, slot_word, in_use, valid_trailer}
use Rattle.blocks.specs.Sound.{reachable}
use Rattle.blocks.proofs.Trailer.{Sized, trailer_fits, byte_in_cell, trailer_cell, RootMoves, TrailerSays, root_changed}
use Rattle.blocks.proofs.Roots.{SoundParts, reachable-usable}
use Rattle.store.specs.Free.{free}
use Rattle.store.specs.Committed.{numbering, commit_writes, committed}
use Rattle.store.proofs.Free.{free-usable, free_reached, trailer_not_free}

module _ (b : List ℕ) (s : Sized b) (x : Built) (whole : Whole x.cells) (enough : length x.cells ≤ length (free (layout_of b) b)) where
  -- the block with the allocated cells, and then the root
  pub committed_is : committed b x ≡ with_word (written b (build_writes (numbering b) x.cells)) (root_at (layout_of b)) x.word
  unfolding commit_writes written
  committed_is = written-append b (build_writes (numbering b) x.cells) (record { at = root_at (layout_of b); word = x.word } ∷ [])

  pub committed-length : length (committed b x) ≡ length b
  committed-length = written-length b (commit_writes (layout_of b) (numbering b) x)

  pub committed_bytes : IsBytes b → IsBytes (committed b x)
  committed_bytes bytes = written_bytes b (commit_writes (layout_of b) (numbering b) x) bytes

  celled_cell : (c : ℕ) → memory_of (written b (build_writes (numbering b) x.cells)) c ≡ memory_with (numbering b) (memory_of b) x.cells c
  celled_cell =
      free_written (layout_of b) (free (layout_of b) b) (λ c h. free-usable (layout_of b) b c h) x.cells enough b whole (omega (arith, s.whole))

  -- a cell that is not free is as it was
  not_taken : (c : ℕ) → occurrences c (free (layout_of b) b) ≡ 0 → memory_with (numbering b) (memory_of b) x.cells c ≡ memory_of b c
  not_taken c e =
      memory_with_other (numbering b) (memory_of b) x.cells c
      (omega (arith, e, numbers_free (layout_of b) (free (layout_of b) b) x.cells enough c))

  last_trailer : is_trailer (layout_of b) ((layout_of b).cells - 1) ≡ true
  last_trailer = trailer_is (layout_of b) ((layout_of b).cells - 1) (omega (arith, trailer_some (layout_of b))) (omega arith)

  root_at_lem : root_at (layout_of b) ≡ ((layout_of b).cells - 1) * 32 + 0
  root_at_lem = omega arith

  pub committed_cells : (c : ℕ) → c ≢ (layout_of b).cells - 1 → memory_of (committed b x) c ≡ memory_with (numbering b) (memory_of b) x.cells c
  committed_cells c other =
      ap (λ (l : List ℕ). memory_of l c) committed_is
      ∙ ap (λ (at : ℕ). memory_of (with_word (written b (build_writes (numbering b) x.cells)) at x.word) c) root_at_lem
      ∙ memory_written_other (written b (build_writes (numbering b) x.cells)) ((layout_of b).cells - 1) c 0 x.word other (omega arith)
      ∙ celled_cell c

  -- in the trailer only the root word moves
  pub committed_trailer : memory_of (committed b x) ((layout_of b).cells - 1) ≡ with_word (memory_of b ((layout_of b).cells - 1)) 0 x.word
  committed_trailer =
      ap (λ (l : List ℕ). memory_of l ((layout_of b).cells - 1)) committed_is
      ∙ ap (λ (at : ℕ). memory_of (with_word (written b (build_writes (numbering b) x.cells)) at x.word) ((layout_of b).cells - 1)) root_at_lem
      ∙ memory_written_same (written b (build_writes (numbering b) x.cells)) ((layout_of b).cells - 1) 0 x.word
      (omega (arith, trailer_fits b s, written-length b (build_writes (numbering b) x.cells))) (omega arith)
      ∙ ap (λ (l : List ℕ). with_word l 0 x.word) (celled_cell ((layout_of b).cells - 1) ∙ not_taken ((layout_of b).cells - 1) (trailer_not_free (layout_of b) b ((layout_of b).cells - 1) last_trailer))

  pub committed_kept : SoundParts (layout_of b) b → (c : ℕ) → 1 ≤ occurrences c (reachable (layout_of b) b) → memory_of (committed b x) c ≡ memory_of b c
  committed_kept p c h =
      committed_cells c (not_last (layout_of b) c (reachable-usable (layout_of b) b p c h)) ∙ not_taken c (free_reached (layout_of b) b c h)

  trailer_byte_kept : RootMoves (layout_of b) b (committed b x)
  trailer_byte_kept i low high far =
      ap (λ (l : List ℕ). get_or l i 0) committed_is
      ∙ byte_other (written b (build_writes (numbering b) x.cells)) (root_at (layout_of b)) x.word i far
      ∙ byte_in_cell (written b (build_writes (numbering b) x.cells)) i
      ∙ ap (λ (l : List ℕ). get_or l (i % 32) 0)
      (celled_cell (i / 32) ∙ not_taken (i / 32) (trailer_not_free (layout_of b) b (i / 32) (trailer_cell (layout_of b) i low high)))
      ∙ sym (byte_in_cell b i)

  committed_root : x.word < 4294967296 → root_word (layout_of b) (committed b x) ≡ x.word
  unfolding root_word
  committed_root small =
      ap (root_word (layout_of b)) committed_is
      ∙ word_same (written b (build_writes (numbering b) x.cells)) (root_at (layout_of b)) x.word
      (omega (arith, trailer_fits b s, written-length b (build_writes (numbering b) x.cells))) small

  pub committed_says : valid_trailer (layout_of b) b ≡ true → x.word < 4294967296
      → TrailerSays b (committed b x) x.word (slot_word (layout_of b) b) (in_use (layout_of b) b)
  committed_says valid small =
      subst (λ (r : ℕ). TrailerSays b (committed b x) r (slot_word (layout_of b) b) (in_use (layout_of b) b)) (committed_root small)
      (root_changed b (committed b x) valid committed-length s.least trailer_byte_kept)
