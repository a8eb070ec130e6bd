-- The report on an image that is measured.
use Rattle.std.proofs.Common.{inl, inr, refl, ap, subst}
use Rattle.command_faults.specs.Faults.{line_after}
use Rattle.command_faults.specs.Streams.{heard, says}
use Rattle.vol_layout.specs.Geometry.{geometry_read}
use Rattle.unixvol.specs.Serve.{or_refused}
use Rattle.unixvol.proofs.serve.measure.Goals as goal

pub returns-in_default-clause-measures : goal.returns-in_default-clause-measures
returns-in_default-clause-measures g c = inl (refl, c.tell_fault.ensures)

pub returns-in-Ok-read-clause-measures : goal.returns-in-Ok-read-clause-measures
returns-in-Ok-read-clause-measures g c =
    let errors = heard g.E.Sink.contents g.E.Sink.failed c.args.errors.now c.tell_fault-2.new.errors in
    inr (c.in-Ok.least, c.in-Ok.ensures, subst (λ fault. says errors (line_after fault)) c.broken.ensures c.tell_fault-2.ensures, ap or_refused {y = geometry_read c.args.volume.edition c.args.image.now} c.in-Ok-read.ensures.exact)

pub returns-in-Err-clause-measures : goal.returns-in-Err-clause-measures
returns-in-Err-clause-measures g c =
    let errors = heard g.E.Sink.contents g.E.Sink.failed c.args.errors.now c.tell_fault-2.new.errors in
    inr (c.in-Ok.least, c.in-Ok.ensures, subst (λ fault. says errors (line_after fault)) c.broken.ensures c.tell_fault-2.ensures, ap or_refused {y = geometry_read c.args.volume.edition c.args.image.now} c.in-Err.ensures.exact)
