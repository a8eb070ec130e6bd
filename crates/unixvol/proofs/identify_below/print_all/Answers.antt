use Rattle.std.proofs.Common.{inl, inr, refl}
use Rattle.std.proofs.KnownBytes.{Appends-nil}
use Rattle.unixvol.proofs.identify_below.print_all.Goals as goal

pub returns-in-Ok : goal.returns-in-Ok
returns-in-Ok g c = inl (c.in-Ok.stack.items, c.in-Ok.ensures, c.print_stack.ensures)

pub returns-in-Err : goal.returns-in-Err
returns-in-Err g c =
    inr (record { status = c.tell_file.ensures; whole = Appends-nil (g.O.Sink.contents c.args.output.now); working = refl; said = refl })
