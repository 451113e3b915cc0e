-- Laws of the stage: one cell written at a time, and the list of cells that stand in it.
use mathlib.Core.Path.{◌≡◌, refl, sym, ap, ◌∙◌}
use mathlib.Core.Logic.{◌≢◌}
use mathlib.Core.List.{List, [], ◌∷◌, ◌++◌}
use native.Mathlib.Decide.{dec_lt, ℕ_discrete}
use native.Mathlib.Omega.{arith}
use native.Mathlib.Numerals.{add-one}
use Prim.Native.Nat.{ℕ, zero, suc, ◌+◌, ◌-◌, ◌*◌, ◌≤◌, ◌<◌}
use mir.Val.{Fits}
use mir.Syntax.{w8}
use lib.ListN.{length, get_or, set, take, drop, replicate, length-set, length-take, length-drop, get_or-eq_default, get_or-append}
use lib.Seq.{get_or-set_same, get_or-set_other, get_or-take, get_or-append_right, length-take-le}
use borrow.Rule.Slice.PartMut.{mid_of, put_mid}
use Rattle.std.proofs.lemmas.List.{get_or-drop}
use Rattle.std.proofs.lemmas.Slice.{take-put_mid_below, drop-put_mid}
use Rattle.cells.specs.Bytes.{IsBytes, zeros}
use Rattle.cells.specs.Word.{with_word}
use Rattle.cells.specs.Memory.{memory_of}
use Rattle.cells.specs.Writes.{written, cell_writes}
use Rattle.cells.proofs.Memory.{memory_length, memory_byte, memory_is, memory_alike, memory_written_same, memory_written_other}
use Rattle.cells.proofs.CellWrites.{cell_written_same, cell_written_other}
use Rattle.nodes.specs.Layout.{Layout}
use Rattle.staging.specs.NewCells.{blank}
use Rattle.staging.specs.Numbering.{number_from}
use Rattle.staging.specs.Code.Stage.{staged, Put}
use Rattle.staging.proofs.CellBytes.{IsCell}

-- the default of an element that is there does not matter
get_or_inside : (l : List ℕ) (i d e : ℕ) → i < length l → get_or l i d ≡ get_or l i e
get_or_inside [] i d e inside = absurd (omega arith)
get_or_inside (x ∷ l) zero d e inside = refl
get_or_inside (x ∷ l) (suc i) d e inside = get_or_inside l i d e (omega arith)

-- the elements of a slice of bytes are bytes
pub slice_bytes : (l : List ℕ) → ((i : ℕ) → Fits w8 (get_or l i 0)) → IsBytes l
slice_bytes l given = record { below = λ i. omega (arith, given i) }

-- one write after another into the same cell
pub put_then : {before between after bytes : List ℕ} {at : ℕ} (f : List ℕ → List ℕ)
    → Put before between at bytes → Put between after at (f (memory_of between at)) → Put before after at (f bytes)
put_then f first second =
    record {
      here = second.here ∙ ap f first.here;
      others = λ d other. second.others d other ∙ first.others d other;
    }

-- a cell of which the last bytes are known in another way
pub put_as : {before after bytes bytes' : List ℕ} {at : ℕ} → Put before after at bytes → bytes ≡ bytes' → Put before after at bytes'
put_as put same = record { here = put.here ∙ same; others = put.others }

-- a byte, a word and a whole cell written
module _ (stage : List ℕ) (at : ℕ) (fits : at * 32 + 32 ≤ length stage) where
  byte_set : (offset v : ℕ) → offset < 32 → Put stage (set stage (at * 32 + offset) v) at (set (memory_of stage at) offset v)
  byte_set offset v inside =
      record {
        here = memory_is (set stage (at * 32 + offset) v) at (set (memory_of stage at) offset v)
            (length-set (memory_of stage at) offset v ∙ memory_length stage at) byte;
        others = λ d other. memory_alike (set stage (at * 32 + offset) v) stage d
            (λ k near. get_or-set_other stage (at * 32 + offset) (d * 32 + k) v 0 (apart d k other near));
      }
    where
      apart : (d k : ℕ) → d ≢ at → k < 32 → d * 32 + k ≢ at * 32 + offset
      apart d k other near = elim (dec_lt d at) [
        | yes below ↦ omega arith
        | no above ↦ omega arith
      ]

      byte : (k : ℕ) → k < 32 → get_or (set stage (at * 32 + offset) v) (at * 32 + k) 0 ≡ get_or (set (memory_of stage at) offset v) k 0
      byte k near = elim (ℕ_discrete k offset) [
        | yes same ↦
            ap (λ j. get_or (set stage (at * 32 + offset) v) (at * 32 + j) 0) same
            ∙ get_or-set_same stage (at * 32 + offset) v 0 (omega arith)
            ∙ sym (get_or-set_same (memory_of stage at) offset v 0 (omega (arith, memory_length stage at)))
            ∙ ap (λ j. get_or (set (memory_of stage at) offset v) j 0) (sym same)
        | no other ↦
            get_or-set_other stage (at * 32 + offset) (at * 32 + k) v 0 (omega arith)
            ∙ sym (memory_byte stage at k near) ∙ sym (get_or-set_other (memory_of stage at) offset k v 0 other)
      ]

  pub put_byte_law : (offset v : ℕ) (after : List ℕ) → offset < 32 → after ≡ set stage (at * 32 + offset) v
      → Put stage after at (set (memory_of stage at) offset v)
  put_byte_law offset v after inside is =
      let put = byte_set offset v inside in
      record { here = ap (λ s. memory_of s at) is ∙ put.here; others = λ d other. ap (λ s. memory_of s d) is ∙ put.others d other }

  pub put_word_law : (offset word : ℕ) (after : List ℕ) → offset + 4 ≤ 32 → after ≡ with_word stage (at * 32 + offset) word
      → Put stage after at (with_word (memory_of stage at) offset word)
  put_word_law offset word after inside is =
      record {
        here = ap (λ s. memory_of s at) is ∙ memory_written_same stage at offset word fits inside;
        others = λ d other. ap (λ s. memory_of s d) is ∙ memory_written_other stage at d offset word other inside;
      }

  pub put_cell_law : (bytes after : List ℕ) → IsCell bytes → after ≡ written stage (cell_writes at bytes) → Put stage after at bytes
  put_cell_law bytes after cell is =
      record {
        here = ap (λ s. memory_of s at) is ∙ cell_written_same stage at bytes cell.size cell.bytes fits;
        others = λ d other. ap (λ s. memory_of s d) is ∙ cell_written_other stage at d bytes other;
      }

-- the bytes of a cell written as a whole
pub put_part : (stage bytes : List ℕ) (at n : ℕ) → n ≡ 32 → at * 32 + 32 ≤ length stage → length bytes ≡ 32
    → Put stage (put_mid (at * 32) n stage bytes) at bytes
put_part stage bytes at n size fits whole =
    record {
      here = memory_is after at bytes whole
          (λ k near.
          let place : at * 32 + k - length (take (at * 32) stage) ≡ k = omega (arith, length-take-le (at * 32) stage (omega arith)) in
          get_or-append_right (take (at * 32) stage) (bytes ++ drop n (drop (at * 32) stage)) (at * 32 + k) 0 (omega (arith, length-take (at * 32) stage))
          ∙ ap (λ i. get_or (bytes ++ drop n (drop (at * 32) stage)) i 0) place
          ∙ get_or-append bytes (drop n (drop (at * 32) stage)) 0 k (omega arith));
      others = λ d other. memory_alike after stage d
          (λ k near. elim (dec_lt d at) [
            | yes below ↦
                sym (get_or-take (at * 32) after (d * 32 + k) 0 (omega arith))
                ∙ ap (λ l. get_or l (d * 32 + k) 0) (take-put_mid_below (at * 32) n stage bytes (at * 32) (omega arith) (omega arith))
                ∙ get_or-take (at * 32) stage (d * 32 + k) 0 (omega arith)
            | no above ↦
                let behind : d * 32 + k ≡ at * 32 + 32 + (d * 32 + k - (at * 32 + 32)) = omega arith in
                ap (λ i. get_or after i 0) behind
                ∙ sym (get_or-drop (at * 32 + 32) after (d * 32 + k - (at * 32 + 32)) 0)
                ∙ ap (λ l. get_or l (d * 32 + k - (at * 32 + 32)) 0)
                (drop-put_mid (at * 32) n stage bytes (at * 32 + 32) (omega arith) (omega arith) (whole ∙ sym size))
                ∙ get_or-drop (at * 32 + 32) stage (d * 32 + k - (at * 32 + 32)) 0
                ∙ ap (λ i. get_or stage i 0) (sym behind)
          ]);
    }
  where
    after : List ℕ
    after = put_mid (at * 32) n stage bytes

pub part_size : (stage : List ℕ) (at n : ℕ) → at * 32 + 32 ≤ length stage → n ≡ 32 → length (mid_of (at * 32) n stage) ≡ 32
part_size stage at n fits size = omega (arith, length-take-le n (drop (at * 32) stage), length-drop (at * 32) stage)

pub put_cleared : (stage bytes : List ℕ) (at n : ℕ) → n ≡ 32 → at * 32 + 32 ≤ length stage → bytes ≡ replicate (length (mid_of (at * 32) n stage)) 0
    → Put stage (put_mid (at * 32) n stage bytes) at blank
unfolding blank zeros
put_cleared stage bytes at n size fits cleared =
    let zero : bytes ≡ replicate 32 0 = cleared ∙ ap (λ k. replicate k 0) (part_size stage at n fits size) in
    put_as (put_part stage bytes at n size fits (ap length zero)) zero

-- how many cells stand
pub staged-length : (stage : List ℕ) (count : ℕ) → length (staged stage count) ≡ count
unfolding staged
staged-length stage zero = refl
staged-length stage (suc count) = ap suc (staged-length stage count)

-- stages whose first cells are alike have the same cells
pub staged_alike : (before after : List ℕ) (count : ℕ) → ((d : ℕ) → d < count → memory_of after d ≡ memory_of before d)
    → staged after count ≡ staged before count
unfolding staged
staged_alike before after zero same = refl
staged_alike before after (suc count) same = rw (same count (omega arith), staged_alike before after count (λ d below. same d (omega arith)))

module _ {before after : List ℕ} {at : ℕ} {bytes : List ℕ} (put : Put before after at bytes) where
  -- the cells before the one written are as they were
  pub put_below : (count : ℕ) → count ≤ at → staged after count ≡ staged before count
  put_below count low = staged_alike before after count (λ d below. put.others d (omega arith))

  -- one cell more
  pub put_next : staged after (suc at) ≡ bytes ∷ staged before at
  unfolding staged
  put_next = rw (put.here, put_below at (omega arith))

  -- the newest cell written again
  pub put_newest : (count : ℕ) → count ≡ at + 1 → staged after count ≡ bytes ∷ staged before at
  put_newest count is = ap (staged after) (is ∙ add-one at) ∙ put_next

-- the number of a place: in the free list, and past its end
module _ (layout : Layout) (numbers : List ℕ) (free place : ℕ) where
  pub number_listed : place < free → place < length numbers → get_or numbers place 0 ≡ number_from layout (take free numbers) place
  unfolding number_from
  number_listed near inside =
      get_or_inside numbers place 0 (layout.cells - 1) inside ∙ sym (get_or-take free numbers place (layout.cells - 1) near)

  pub number_past : free ≤ place → layout.cells - 1 ≡ number_from layout (take free numbers) place
  unfolding number_from
  number_past past = sym (get_or-eq_default (take free numbers) (layout.cells - 1) {n = place} (omega (arith, length-take free numbers)))
