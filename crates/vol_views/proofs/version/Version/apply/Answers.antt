use Rattle.std.proofs.Common.{◌∙◌, ap, sym}
use Rattle.vol_views.specs.States.{state_of}
use Rattle.vol_views.proofs.Versions.{applied_reads}
use Rattle.vol_views.proofs.version.Version.apply.Goals as goal

pub invariant_of-self : goal.invariant_of-self
invariant_of-self c =
    let made = c.apply-is_next.ensures in (
      made.sound,
      made.sizes,
      made.count,
      applied_reads c.self.inside.geometry c.self.inside.image c.apply-is_next.new.image c.self.inside.trace.log c.args.entry.now c.apply-is_next.result
          c.self.invariant.3 made.may_follow made.performed made.unchanged
          ∙ ap state_of (sym c.longer.ensures),
    )
