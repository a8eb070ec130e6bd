-- Invariant of `read_uninterrupted`: interrupted reads consume nothing.
use Rattle.std.specs.Io.KnownBytes.{Keeps}
use Rattle.pdp_words.proofs.from_read.read_uninterrupted.Given as goal

abbrev pub invariant-tries : goal.invariant-tries
invariant-tries g l = Keeps (g.R.Read.remaining l.initial.reader) (g.R.Read.remaining l.reader)
