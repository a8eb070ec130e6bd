use Rattle.std.proofs.Common.{◌≡◌, ◌-◌, ◌≤◌, length, take}
use Rattle.std.specs.Io.KnownBytes.{Appends}
use Rattle.std.specs.List.{flat_map}
use Rattle.command_reads.specs.Json.{later_text}
use Rattle.command_reads.proofs.pieces.put_rest.Given as goal

-- Invariant: the text of the items before `from` has been written, and the output has not failed since the start.
abbrev pub invariant-loop-from : goal.invariant-loop-from
invariant-loop-from g l = record {
  within : l.from ≤ length l.items;
  text : Appends (g.O.Sink.contents l.initial.output) (g.O.Sink.contents l.output) (flat_map (later_text g.T.Shown.shown) (take l.from l.items));
  working : g.O.Sink.failed l.output ≡ g.O.Sink.failed l.initial.output;
}

abbrev pub decreases-loop-from : goal.decreases-loop-from
decreases-loop-from g l = length l.items - l.from
