use Rattle.std.proofs.Common.{◌≡◌, ◌-◌, ◌*◌, ◌≤◌, take}
use Rattle.std.specs.Io.KnownBytes.{Appends}
use Rattle.vol_mkfs.specs.Blank.{volume_bytes}
use Rattle.vol_mkfs.proofs.blank.blocks.write_blocks.Given as goal

-- Invariant: the sink took the blocks before block `next`, and has failed only if it had at the beginning.
abbrev pub invariant-loop-next : goal.invariant-loop-next
invariant-loop-next g l = record {
  within : l.next ≤ l.geometry.zone_end;
  taken : Appends (g.W.Sink.contents l.initial.sink) (g.W.Sink.contents l.sink) (take (512 * l.next) (volume_bytes l.geometry l.first));
  working : g.W.Sink.failed l.sink ≡ g.W.Sink.failed l.initial.sink;
}

abbrev pub decreases-loop-next : goal.decreases-loop-next
decreases-loop-next g l = l.geometry.zone_end - l.next
