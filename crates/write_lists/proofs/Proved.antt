-- What is proved of a write list, on any bytes: it meets its table of answers and whatever meets the table is the call; a driver that
-- is cut short leaves the old table, one that makes the last store leaves what inserting gives, and a retry after a cut is safe.
use mathlib.Core.Path.{◌≡◌}
use mathlib.Core.Logic.{◌≢◌}
use mathlib.Core.Bool.{true, false}
use mathlib.Core.List.{List}
use Prim.Native.Nat.{ℕ, ◌≤◌, ◌<◌}
use lib.ListN.{length}
use Rattle.cells.specs.Bytes.{IsBytes}
use Rattle.blocks.specs.Trailer.{bad_size, layout_of, in_use}
use Rattle.blocks.specs.Sound.{sound}
use Rattle.blocks.specs.Read.{shown}
use Rattle.blocks.specs.After.{After, slot_shown}
use Rattle.store.specs.Insert.{insert}
use Rattle.write_lists.specs.WriteList.{WriteList, list_room, write_list}
use Rattle.write_lists.specs.Driven.{driven}
use Rattle.write_lists.specs.OnlyFree.{OnlyFree}
use Rattle.write_lists.specs.Tables.{WriteListTable}
use Rattle.write_lists.proofs.WriteListCall.{write_list_table}
use Rattle.write_lists.proofs.WriteListCall as call
use Rattle.write_lists.proofs.Told as told
use Rattle.write_lists.proofs.OnlyFree as only_free
use Rattle.write_lists.proofs.Cuts as cuts

pub write_list_meets : (b key : List ℕ) (value : ℕ) (list : List ℕ) → WriteListTable b key value list (write_list b key value list)
write_list_meets = write_list_table

pub write_list_told : (b key : List ℕ) (value : ℕ) (list : List ℕ) (r : WriteList) → IsBytes b → IsBytes key → IsBytes list
    → WriteListTable b key value list r → r ≡ write_list b key value list
write_list_told = told.write_list_told

-- a buffer for the list of a longest key is never too short
pub room_enough : (b key : List ℕ) (value : ℕ) (list : List ℕ) → list_room ≤ length list → (write_list b key value list).answer ≢ 15
room_enough = call.room_enough

-- a list that was made, of any insertion into any block; the stores are read from the bytes of that list, one record after the other
module _ (b key : List ℕ) (value : ℕ) (list : List ℕ) (bytes : IsBytes b) (is_bytes : IsBytes key) (done : (write_list b key value list).answer ≡ 0) where
  -- 02, 6: "After any first part short of the last store, the book is sound and shows the old table, and the marks theirs."
  pub cut_short_lem : (k : ℕ) → k < (write_list b key value list).records
      → After b (driven b (write_list b key value list).list k) (shown b) (in_use (layout_of b) b) (slot_shown b)
  cut_short_lem = cuts.cut_short_lem b key value list bytes is_bytes done

  -- 02, 6: "After the last it is byte for byte what entering gives."
  pub cut_last : driven b (write_list b key value list).list (write_list b key value list).records ≡ (insert b key value).block
  cut_last = cuts.cut_last b key value list bytes is_bytes done

  -- after any first part the same insertion gives what it would have given uncut: the answer, the count and every byte
  pub cut_again : (k : ℕ) → k < (write_list b key value list).records → insert (driven b (write_list b key value list).list k) key value ≡ insert b key value
  cut_again = cuts.cut_again b key value list bytes is_bytes done

  -- and so does its list, in whatever buffer
  pub cut_lists_again : (k : ℕ) → k < (write_list b key value list).records → (other : List ℕ)
      → write_list (driven b (write_list b key value list).list k) key value other ≡ write_list b key value other
  cut_lists_again = cuts.cut_lists_again b key value list bytes is_bytes done

-- whatever is written into free cells, in whatever order and in whatever part: the block is sound and shows what it did
pub only_free_after : (b b' : List ℕ) → bad_size b ≡ false → sound b ≡ true → IsBytes b → OnlyFree b b'
    → After b b' (shown b) (in_use (layout_of b) b) (slot_shown b)
only_free_after = only_free.only_free_after
