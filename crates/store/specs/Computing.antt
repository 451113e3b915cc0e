-- What an equation that is computed unfolds: every definition that a call on a block goes through. To name a group on an
-- `unfolding` line is to unfold all that it names; its own value says nothing.
use Rattle.cells.specs.Word.{with_word}
use Rattle.cells.specs.Writes.{written, word_writes}
use Rattle.cells.specs.Occurrences.{select, count_up}
use Rattle.order_words.specs.Digits.{encode}
use Rattle.order_words.specs.Extended.{with_digit, extended_order}
use Rattle.nodes.specs.Pointer.{leaf_word}
use Rattle.nodes.specs.Sparse.{position_of}
use Rattle.nodes.specs.Value.{pointer_value}
use Rattle.staging.specs.NewCells.{blank, chain_cell, prefix_cell, with_prefix, pair_cell, sparse_pair, without_characters, sparse_copy, with_order, appended_cell, branch_copy, head_copy, with_words}
use Rattle.updates.specs.Built.{allocate, room, first_used, character_before, chain_with, chain_over}
use Rattle.updates.specs.SplitBuild.{branch_row, rows, end_row, mid_row, split_of, split_copied}
use Rattle.updates.specs.SetChild.{chain_set, sparse_set, set_child}
use Rattle.updates.specs.PrefixOver.{embeds, prefix_before, prefix_over}
use Rattle.updates.specs.Build.{word_aside, put_back, child_of, path_copy, value_at, build, cells_needed}
use Rattle.removals.specs.RisingCell.{characters_from, with_characters, rising_order, rising_cell}
use Rattle.removals.specs.SplitLeft.{split_left}
use Rattle.removals.specs.LoseChild.{of_kept, split_stays, lose_child}
use Rattle.removals.specs.Removal.{change_child, put_back_left, removal, needed_to_remove}
use Rattle.staging.specs.Numbering.{number_from}
use Rattle.updates.specs.Commit.{build_writes}
use Rattle.blocks.specs.Trailer.{valid_slot}
use Rattle.blocks.specs.Sound.{reached_from}
use Rattle.blocks.specs.Refusal.{bad_new_key, bad_value}
use Rattle.blocks.specs.Computing.{reads_open}
use Rattle.store.specs.Free.{first_tried, allocation_order, free}
use Rattle.store.specs.Format.{formatted, format}
use Rattle.store.specs.Insert.{block_build, insert}
use Rattle.store.specs.Remove.{block_removal, remove}
use Rattle.store.specs.Committed.{commit_writes}

-- the builds of an insertion and of a removal
unfoldable pub builds_open : Unit {0}
unfolding with_word written word_writes select encode with_digit extended_order leaf_word position_of blank chain_cell prefix_cell with_prefix pair_cell sparse_pair without_characters sparse_copy with_order appended_cell branch_copy head_copy with_words allocate room first_used character_before chain_with chain_over branch_row rows end_row mid_row split_of split_copied chain_set sparse_set set_child word_aside pointer_value embeds prefix_before prefix_over put_back child_of path_copy value_at build cells_needed characters_from with_characters rising_order rising_cell split_left of_kept split_stays lose_child change_child put_back_left removal needed_to_remove number_from build_writes
builds_open = tt

-- the calls, with all of these
unfoldable pub calls_open : Unit {0}
unfolding reads_open builds_open valid_slot reached_from count_up first_tried allocation_order free bad_new_key bad_value formatted format block_build block_removal commit_writes insert remove
calls_open = tt
