-- If the file can't be read, the server takes and sends nothing and prints nothing.
use Rattle.std.proofs.Common.{ℕ, inl, refl, subst, sym}
use Rattle.command_faults.proofs.Lines.{gets_nothing}
use Rattle.unixvol.specs.Runs.{IsUnread}
use Rattle.unixvol.proofs.serve.run_read_only.Goals as goal

pub returns-in-Err : goal.returns-in-Err
returns-in-Err g c = inl (
  subst (λ (status : ℕ). IsUnread g.R.File.Read.remaining status) (sym c.tell_file.ensures) c.in-Err.ensures.fault,
  (refl, refl),
  gets_nothing (g.E.Sink.failed c.args.errors.now) (g.E.Sink.contents c.args.errors.now),
)
