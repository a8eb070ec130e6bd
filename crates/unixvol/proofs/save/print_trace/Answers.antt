use Rattle.std.proofs.Common.{refl}
use Rattle.std.proofs.KnownBytes.{Keeps-refl}
use Rattle.unixvol.proofs.save.print_trace.Goals as goal

pub returns-in-Some-clause-saved : goal.returns-in-Some-clause-saved
returns-in-Some-clause-saved g c zero = rw c.in-Some.is (rw c.deref.ensures.value at c.print_text.ensures)

pub returns-clause-saved : goal.returns-clause-saved
returns-clause-saved g c zero =
    rw c.in-None.is (record { ended = zero; kept = Keeps-refl (g.O.Sink.contents c.args.output.now); working = refl; said = refl })
