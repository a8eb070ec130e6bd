-- Invariant of `write_uninterrupted`: interrupted writes write nothing.
use Rattle.std.specs.Io.KnownBytes.{Keeps}
use Rattle.pdp_words.proofs.into_write.write_uninterrupted.Given as goal

abbrev pub invariant-tries : goal.invariant-tries
invariant-tries g l = Keeps (g.W.Write.contents l.initial.writer) (g.W.Write.contents l.writer)
