use Rattle.std.proofs.Common.{◌≤◌, ap, arith, inl, inr, refl, subst, sym, ◌∙◌}
use Rattle.std.proofs.KnownBytes.{Keeps-refl}
use Rattle.host_files.specs.declared.volume_front.UpTo.TheVariants.{Volume}
use Rattle.unixvol.specs.Runs.{GaveAt, IsUnread, status_after}
use Rattle.unixvol.proofs.FileFaults.{stopped_quiet, stopped_status}
use Rattle.unixvol.proofs.commands.run_cat.Goals as goal

pub returns-in_err-read_volume-clause-shown : goal.returns-in_err-read_volume-clause-shown
returns-in_err-read_volume-clause-shown g c =
    inl (
      stopped_status (IsUnread g.R.File.Read.remaining) _ _ c.from_residual.ensures.1 c.in_err-read_volume.ensures.fault,
      Keeps-refl (g.O.Sink.contents c.args.output.now),
      refl,
    )

pub returns-in_err-read_volume-clause-within : goal.returns-in_err-read_volume-clause-within
returns-in_err-read_volume-clause-within g c =
    stopped_status (λ status. status ≤ 4) _ _ c.from_residual.ensures.1
    (elim c.in_err-read_volume.ensures.fault [ inl three ↦ omega (arith, three) | inr four ↦ omega (arith, four.0) ])

pub returns-in_err-read_volume-clause-quiet : goal.returns-in_err-read_volume-clause-quiet
returns-in_err-read_volume-clause-quiet g c = stopped_quiet _ _ c.from_residual.ensures.1

pub returns-in-Ok-clause-shown : goal.returns-in-Ok-clause-shown
returns-in-Ok-clause-shown g c =
    inr (
      c.from_bytes-image.result,
      c.print_file.result,
      subst (GaveAt c.args.volume.at (Volume c.args.volume.edition) g.R.File.Read.remaining) (sym c.from_bytes-image.ensures) c.in_ok-read_volume.ensures.given,
      c.print_file.ensures.shown,
      c.print_file.ensures.writer,
      c.print_file.ensures.kept,
      sym (ap status_after c.in-Ok.is),
    )

pub returns-clause-shown : goal.returns-clause-shown
returns-clause-shown g c =
    inr (
      c.from_bytes-image.result,
      c.print_file.result,
      subst (GaveAt c.args.volume.at (Volume c.args.volume.edition) g.R.File.Read.remaining) (sym c.from_bytes-image.ensures) c.in_ok-read_volume.ensures.given,
      c.print_file.ensures.shown,
      c.print_file.ensures.writer,
      c.print_file.ensures.kept,
      c.explain_cat.ensures.status ∙ sym (ap status_after c.in-Err.is),
    )
