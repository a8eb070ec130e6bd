use Rattle.std.proofs.Common.{◌-◌, reverse}
use Rattle.vol_free.specs.Walk.{HasMet, AreZoned}
use Rattle.vol_free.proofs.free_walk.walk_free.Given as goal

-- Invariant: the list has the blocks visited so far.
abbrev pub invariant-walk : goal.invariant-walk
invariant-walk l = record {
  walking : HasMet l.geometry l.image l.marks.items l.walk (reverse l.met.items);
  zoned : AreZoned l.geometry l.met.items;
}

-- The number of blocks of the volume minus the number of blocks visited decreases: each step visits one.
abbrev pub decreases-walk : goal.decreases-walk
decreases-walk l = l.geometry.zone_end - l.walk.met
