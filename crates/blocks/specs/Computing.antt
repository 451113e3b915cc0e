-- What a computed equation about a call that only reads unfolds. To name the group on an `unfolding` line is to unfold all that it
-- names; its own value says nothing.
use Rattle.cells.specs.Occurrences.{select}
use Rattle.nodes.specs.Computing.{nodes_open}
use Rattle.trees.specs.Tree.{spread, step, tree}
use Rattle.trees.specs.Root.{is_root, root_tree, once_visited, cells_of}
use Rattle.trees.specs.Lookup.{lookup}
use Rattle.trees.specs.Entries.{own_entry, child_entries, entries_under, node_entries, entries, key_before, first}
use Rattle.blocks.specs.Trailer.{bad_length, bad_size, layout_of, root_word, slots, slot_at, in_use, every_slot, zero_from, valid_trailer}
use Rattle.blocks.specs.Sound.{slot_roots, roots, sound_with}
use Rattle.blocks.specs.Refusal.{first_refusal, over_long, bad_key}
use Rattle.blocks.specs.Read.{missing, value_or, validate, get, padded, key_or, next_key}

-- validation and look-up
unfoldable pub reads_open : Unit {0}
unfolding nodes_open spread step tree is_root root_tree once_visited cells_of lookup bad_length bad_size layout_of root_word slots slot_at in_use every_slot zero_from valid_trailer slot_roots roots sound_with first_refusal over_long bad_key missing value_or validate get
reads_open = tt

-- the next key, with all of these
unfoldable pub next_open : Unit {0}
unfolding reads_open select own_entry child_entries entries_under node_entries entries key_before first padded key_or next_key
next_open = tt
