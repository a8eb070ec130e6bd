-- Invariant of `write_with_holes`: the first `at` bytes were written.
use Rattle.std.proofs.Common.{◌-◌, ◌≤◌, length, take}
use Rattle.std.specs.Io.KnownBytes.{Appends}
use Rattle.host_files.proofs.holes.write_with_holes.Given as goal

abbrev pub invariant-pieces : goal.invariant-pieces
invariant-pieces g l = record {
  written : Appends (g.W.Sink.contents l.initial.sink) (g.W.Sink.contents l.sink) (take l.at l.bytes);
  within : l.at ≤ length l.bytes;
}

abbrev pub decreases-pieces : goal.decreases-pieces
decreases-pieces g l = length l.bytes - l.at
