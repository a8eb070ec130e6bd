use Rattle.std.proofs.Common.{◌≤◌}
use Rattle.vol_layout.specs.Geometry.{Fits}
use Rattle.vol_free.specs.Stack.{IsFree}
use Rattle.vol_free.specs.Rebuild.{unused_from, KeepsUsed}
use Rattle.vol_free.proofs.free_list.rebuild.Given as goal

-- Invariant: the free blocks are the unmarked blocks at or after `b`, and the other blocks are unchanged.
abbrev pub invariant-loop-b : goal.invariant-loop-b
invariant-loop-b l = record {
  low : l.geometry.zone_start ≤ l.b;
  fits : Fits l.geometry l.image;
  free : IsFree l.geometry l.image (unused_from l.geometry l.used l.b);
  keeps : KeepsUsed l.geometry l.used l.fn.image l.image;
}
