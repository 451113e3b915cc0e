-- An insertion, and its list, asked for anew where only free cells were written since: the same again.
use mathlib.Core.Path.{◌≡◌, refl, sym, ap, ◌∙◌}
use mathlib.Core.Bool.{Bool, true, false}
use mathlib.Core.List.{List}
use Prim.Native.Nat.{ℕ, ◌-◌, ◌/◌}
use native.Mathlib.Omega.{arith}
use lib.Dec.{leb}
use lib.ListN.{length, take}
use Rattle.cells.specs.Bytes.{IsBytes}
use Rattle.cells.specs.Word.{with_word}
use Rattle.cells.specs.Memory.{memory_of}
use Rattle.cells.specs.Occurrences.{occurrences, select}
use Rattle.staging.specs.Numbering.{number_from}
use Rattle.updates.specs.Built.{Built}
use Rattle.updates.specs.Commit.{memory_with}
use Rattle.updates.proofs.Commit.{memory_with_alike, numbers_taken}
use Rattle.blocks.specs.Trailer.{bad_size, layout_of}
use Rattle.blocks.specs.Sound.{sound}
use Rattle.blocks.specs.Refusal.{first_refusal, bad_new_key}
use Rattle.store.specs.Free.{free}
use Rattle.store.specs.Committed.{numbering}
use Rattle.store.specs.Insert.{cells_to_insert, block_build, insert}
use Rattle.store.specs.Laid.{root_reaches, Laid, Finds, MayInsert}
use Rattle.store.proofs.InsertCall.{inserted_change, insert_zero, insert-after, insert-laid}
use Rattle.store.proofs.Determined.{laid_told}
use Rattle.write_lists.specs.OnlyFree.{OnlyFree}
use Rattle.write_lists.specs.WriteList.{write_list}
use Rattle.write_lists.proofs.OnlyFree.{only_free_last, only_free_after, only_free-free, only_free_build, only_free_needed}

module _ (b b' : List ℕ) (size : bad_size b ≡ false) (valid : sound b ≡ true) (bytes : IsBytes b) (only : OnlyFree b b') where
  -- an insertion that is done, where only cells that it takes were written
  module _ (key : List ℕ) (value : ℕ) (is_bytes : IsBytes key) (done : (insert b key value).answer ≡ 0)
      (taken : (c : ℕ) → occurrences c (take (insert b key value).count (free (layout_of b) b)) ≡ 0 → memory_of b' c ≡ memory_of b c) where
    finds : Finds b (MayInsert key value) (cells_to_insert b key)
    finds = (insert_zero b key value).only done

    build_same : block_build b' key value ≡ block_build b key value
    build_same = only_free_build b b' size valid bytes only key value is_bytes finds.may.good_key

    free_same : free (layout_of b') b' ≡ free (layout_of b) b
    free_same = only_free-free b b' size valid bytes only

    done_again : (insert b' key value).answer ≡ 0
    done_again =
        let a = only_free_after b b' size valid bytes only in
        (insert_zero b' key value).given (record {
          size = a.size;
          valid = a.valid;
          may = finds.may;
          enough = omega (arith, finds.enough, only_free_needed b b' size valid bytes only key is_bytes finds.may.good_key, ap (λ (l : List ℕ). length l) free_same);
        })

    laid : Laid b key (block_build b key value) (insert b key value).count (insert b key value).block
    laid = insert-laid b key value bytes is_bytes done

    laid_again : Laid b' key (block_build b' key value) (insert b' key value).count (insert b' key value).block
    laid_again = insert-laid b' key value only.bytes is_bytes done_again

    -- the allocated cells stand at the same numbers, and all others were as they are
    memory_same : (c : ℕ) → memory_with (numbering b') (memory_of b') (block_build b' key value).cells c
        ≡ memory_with (numbering b) (memory_of b) (block_build b key value).cells c
    memory_same c =
        let layout = (only_free_after b b' size valid bytes only).layout in
        let cells = free_same in
        let made = build_same in
        let enough = (inserted_change b key value bytes is_bytes finds).enough in
        (λ i. memory_with (number_from (layout i) (cells i)) (memory_of b') (made i).cells c)
        ∙ memory_with_alike (numbering b) (memory_of b) (memory_of b') (block_build b key value).cells c
        (λ none. taken c
        (ap (λ (n : ℕ). occurrences c (take n (free (layout_of b) b))) laid.counted
        ∙ sym (numbers_taken (layout_of b) (free (layout_of b) b) c (block_build b key value).cells enough) ∙ none))

    -- so the same is laid down
    laid_same : Laid b key (block_build b key value) (insert b' key value).count (insert b' key value).block
    laid_same =
        let last : length b' / 32 - 1 ≡ length b / 32 - 1 = ap (λ (n : ℕ). n / 32 - 1) only.same_length in
        let made = build_same in
        record {
          cells = λ c other. laid_again.cells c (λ e. other (e ∙ last)) ∙ memory_same c;
          trailer =
              ap (memory_of (insert b' key value).block) (sym last) ∙ laid_again.trailer
              ∙ (λ i. with_word (memory_of b' (last i)) 0 (made i).word)
              ∙ ap (λ (l : List ℕ). with_word l 0 (block_build b key value).word) (only_free_last b b' size valid bytes only);
          counted = laid_again.counted ∙ ap (λ (x : Built). length x.cells) build_same;
          most = laid_again.most;
          newly = laid_again.newly
              ∙ ap (λ (l : List ℕ). length (select (λ c. leb 1 (occurrences c (root_reaches (insert b' key value).block))) l)) free_same;
        }

    -- the same answer, count and bytes
    pub insert_again : insert b' key value ≡ insert b key value
    insert_again =
        let answer : (insert b' key value).answer ≡ (insert b key value).answer = done_again ∙ sym done in
        let count : (insert b' key value).count ≡ (insert b key value).count = laid_same.counted ∙ sym laid.counted in
        let lengths : length (insert b' key value).block ≡ length (insert b key value).block =
        (insert-after b' key value only.bytes is_bytes done_again).same_length ∙ only.same_length ∙ sym (insert-after b key value bytes is_bytes done).same_length in
        let block : (insert b' key value).block ≡ (insert b key value).block = laid_told b key (block_build b key value) _ _ _ _ lengths laid_same laid in
        λ i. record { answer = answer i; count = count i; block = block i }

  -- its list asked for anew is the same, refused or not, in every byte
  pub write_list_again : (key : List ℕ) (value : ℕ) (list : List ℕ) → IsBytes key → write_list b' key value list ≡ write_list b key value list
  unfolding write_list first_refusal
  write_list_again key value list is_bytes = go (bad_new_key key) refl
    where
      size' : bad_size b' ≡ false
      size' = (only_free_after b b' size valid bytes only).size

      valid' : sound b' ≡ true
      valid' = (only_free_after b b' size valid bytes only).valid

      go : (bad : Bool) → bad_new_key key ≡ bad → write_list b' key value list ≡ write_list b key value list
      go true bad = rw (size, size', valid, valid', bad)
      go false good =
          let layout = (only_free_after b b' size valid bytes only).layout in
          let cells = only_free-free b b' size valid bytes only in
          let needed = only_free_needed b b' size valid bytes only key is_bytes good in
          let made = only_free_build b b' size valid bytes only key value is_bytes good in
          rw (size, size', valid, valid', made, needed, cells, layout)
