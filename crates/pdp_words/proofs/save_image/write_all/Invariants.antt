-- Invariant of `write_all`: the first `at` bytes have been written to the sink, and it has failed only if it had failed before.
use Rattle.std.proofs.Common.{◌≡◌, ◌-◌, length}
use Rattle.pdp_words.specs.Devices.{AppendsFront}
use Rattle.pdp_words.proofs.save_image.write_all.Given as goal

abbrev pub invariant-loop-at : goal.invariant-loop-at
invariant-loop-at g l = record {
  taken : AppendsFront (g.W.Sink.contents l.initial.sink) (g.W.Sink.contents l.sink) l.bytes l.at;
  working : g.W.Sink.failed l.sink ≡ g.W.Sink.failed l.initial.sink;
}

abbrev pub decreases-loop-at : goal.decreases-loop-at
decreases-loop-at g l = length l.bytes - l.at
