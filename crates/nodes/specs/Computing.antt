-- What an equation that is computed unfolds of bytes, order words and nodes. To name the group on an `unfolding` line is to unfold
-- all that it names; its own value says nothing.
use Rattle.std.proofs.Math.Option.{bind}
use Rattle.cells.specs.Bytes.{zeros}
use Rattle.cells.specs.Word.{word_at}
use Rattle.cells.specs.Memory.{memory_of}
use Rattle.cells.specs.Occurrences.{occurrences, all, distinct}
use Rattle.order_words.specs.Digits.{digits}
use Rattle.order_words.specs.Order.{each_once, place, valid_digits, rising}
use Rattle.nodes.specs.Layout.{may_embed, trailer_cells, valid_edition, usable}
use Rattle.nodes.specs.Written.{words}
use Rattle.nodes.specs.Pointer.{by_kind, pointer}
use Rattle.nodes.specs.Chain.{chain_child}
use Rattle.nodes.specs.Sparse.{some_word, every_word, sparse_digits, valid_sparse, child_from}
use Rattle.nodes.specs.Split.{gather, under, split_cell, end_cells, mid_cells, head_cells, word_below, split_child}
use Rattle.nodes.specs.Prefix.{prefix_link, prefix_cells, valid_offset, valid_prefix}
use Rattle.nodes.specs.Node.{chain_node, plain, read_at, read}

-- bytes, words, order words and nodes
unfoldable pub nodes_open : Unit {0}
unfolding bind zeros words word_at memory_of occurrences all distinct digits each_once place valid_digits rising may_embed trailer_cells valid_edition usable by_kind pointer chain_child some_word every_word sparse_digits valid_sparse child_from gather under split_cell end_cells mid_cells head_cells word_below split_child prefix_link prefix_cells valid_offset valid_prefix chain_node plain read_at read
nodes_open = tt
