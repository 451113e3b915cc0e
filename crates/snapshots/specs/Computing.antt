-- What an equation that is computed unfolds of the calls on slots. To name the group on an `unfolding` line is to unfold all that it
-- names; its own value says nothing.
use Rattle.snapshots.specs.Snapshots.{with_bit, without_bit, snapshot_block, restore_block, release_block, snapshot, restore, release}

-- the calls on slots
unfoldable pub snapshots_open : Unit {0}
unfolding with_bit without_bit snapshot_block restore_block release_block snapshot restore release
snapshots_open = tt
