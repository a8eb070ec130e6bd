-- Invariant of `read_request`: the reads that are repeated consumed nothing.
use Rattle.std.specs.Io.KnownBytes.{Keeps}
use Rattle.vol_serve.proofs.streams.read_request.Given as goal

abbrev pub invariant-tries : goal.invariant-tries
invariant-tries g l = Keeps (g.R.Read.remaining l.initial.reader) (g.R.Read.remaining l.reader)
