-- What a computed equation about write lists unfolds, in the way of `store/Computing`.
use Rattle.store.specs.Computing.{calls_open}
use Rattle.write_lists.specs.Records.{with_records}
use Rattle.write_lists.specs.WriteList.{write_list}
use Rattle.write_lists.specs.Driven.{driven}

-- write lists and the blocks that they leave store by store, with all that an insertion needs
unfoldable pub lists_open : Unit {0}
unfolding calls_open with_records write_list driven
lists_open = tt
