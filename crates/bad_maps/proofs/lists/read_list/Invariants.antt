use Rattle.std.proofs.Common.{◌≡◌, ◌≤◌, length}
use Rattle.bad_maps.specs.Lists.{around_from, bytes_around}
use Rattle.bad_maps.proofs.lists.read_list.Given as goal

-- Invariant: the bytes around the blocks are those before the blocks so far, and then those around the blocks of the remaining pieces.
abbrev pub invariant-pieces : goal.invariant-pieces
invariant-pieces l = record {
  same : bytes_around l.text ≡ around_from l.next l.ranges.items l.pieces;
  below : l.next ≤ 4294967296;
}

abbrev pub decreases-pieces : goal.decreases-pieces
decreases-pieces l = length l.pieces
