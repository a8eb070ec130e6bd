use Rattle.std.proofs.Common.{◌≡◌, map, take}
use Rattle.vol_losses.specs.Spans.{span_in}
use Rattle.vol_losses.proofs.spans.spans_in.Given as goal

-- Invariant: the bytes in the ranges so far have been added.
abbrev pub invariant-loop-range : goal.invariant-loop-range
invariant-loop-range l = record { spans : l.spans.items ≡ map (span_in l.bytes) (take l.range-index l.ranges) }
