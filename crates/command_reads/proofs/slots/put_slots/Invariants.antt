use Rattle.std.proofs.Common.{◌≡◌, ◌-◌, ◌≤◌, drop, length}
use Rattle.std.specs.Io.KnownBytes.{Appends}
use Rattle.command_reads.proofs.SlotLines.{lines_before}
use Rattle.command_reads.proofs.slots.put_slots.Given as goal

-- Invariant: the texts of the slots in the logical blocks before `b` have been written, without the first bytes, and `left` is what is still to be left
-- out; the output has not failed since the start.
abbrev pub invariant-loop-b : goal.invariant-loop-b
invariant-loop-b g l = record {
  within : l.b ≤ l.blocks;
  left : l.left ≡ l.initial.left - length (lines_before l.form l.geometry l.image l.dir l.b);
  lines : Appends (g.O.Sink.contents l.initial.output) (g.O.Sink.contents l.output) (drop l.initial.left (lines_before l.form l.geometry l.image l.dir l.b));
  working : g.O.Sink.failed l.output ≡ g.O.Sink.failed l.initial.output;
}

abbrev pub decreases-loop-b : goal.decreases-loop-b
decreases-loop-b g l = l.blocks - l.b
