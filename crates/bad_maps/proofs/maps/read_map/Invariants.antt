use Rattle.std.proofs.Common.{◌≡◌, ◌+◌, ◌≤◌, length}
use Rattle.bad_maps.specs.Maps.{ranges_from, ranges_in}
use Rattle.bad_maps.proofs.maps.read_map.Given as goal

-- Invariant: the ranges of the map are those of the lines so far, and then of the remaining lines.
abbrev pub invariant-lines : goal.invariant-lines
invariant-lines l = record {
  same : ranges_in l.text ≡ ranges_from l.number l.front.ended l.front.read.items l.lines;
  few : l.number + length l.lines ≤ length l.text + 1;
}

abbrev pub decreases-lines : goal.decreases-lines
decreases-lines l = length l.lines
