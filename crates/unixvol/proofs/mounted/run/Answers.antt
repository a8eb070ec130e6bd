-- The run of a mounted server, with its saves written to a file.
use Rattle.std.proofs.Common.{ℕ, Ok, inl, inr, refl, subst, sym}
use Rattle.command_faults.proofs.Lines.{gets_nothing}
use Rattle.unixvol.specs.Runs.{IsStored, IsUnread}
use Rattle.unixvol.proofs.Saved.{saved_by}
use Rattle.unixvol.proofs.mounted.run.Goals as goal

pub returns-in-Err : goal.returns-in-Err
returns-in-Err g c =
    inl (
      subst (λ (status : ℕ). IsUnread g.R.File.Read.remaining status) (sym c.tell_file.ensures) c.in-Err.ensures.fault,
      (refl, refl),
      gets_nothing (g.E.Sink.failed c.args.errors.now) (g.E.Sink.contents c.args.errors.now),
    )

pub returns : goal.returns
returns g c =
    let served = c.serve-served in
    let saved = saved_by
    (λ bytes. (place : ℕ) × IsStored place bytes g.R.File.Read.remaining g.R.File.Write.contents g.R.ImageFiles.had) _ (λ member. member.stored) c.new-2.result.items served.new.host.saved.items c.new-2.ensures.items c.in-Ok-new.server served.new.server
    c.in_ok-mounted.mounted c.in-Ok-new.ensures.volume _ _ _ _ served.result served.ensures.turns served.ensures.stored in
    inr (
      c.in-Ok.prepared.1.items,
      c.in-Ok.prepared.2.stamp,
      Ok c.in_ok-mounted.mounted,
      c.in-Ok.ensures.image,
      c.in_ok-mounted.ensures,
      inr (
        c.in-Ok-new.server,
        served.new.server,
        saved.0,
        served.result,
        c.in-Ok-new.ensures.volume,
        saved.1,
        saved.2,
        saved.3,
        c.result_of.ensures,
      ),
    )
