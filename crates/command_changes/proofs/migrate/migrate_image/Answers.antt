-- The image breaks a rule, so it can't be mounted.
use Rattle.std.proofs.Common.{true, inl, refl, subst}
use Rattle.vol_judge.specs.Sound.{IsJudged, IsLeastBroken}
use Rattle.vol_layout.specs.declared.edition.Edition.TheVariants.{V6}
use Rattle.vol_volume.specs.declared.volume.MountFault.TheVariants as mounts
use Rattle.command_changes.proofs.migrate.migrate_image.Goals as goal

pub returns-clause-fault : goal.returns-clause-fault
returns-clause-fault c =
    let judged = subst (IsJudged true V6 c.from_bytes-image.result) c.in-Some.is c.in_ok-judge.ensures in
    let broken = subst (λ image. IsLeastBroken true V6 image c.in-Some.rule) c.from_bytes-image.ensures judged in
    inl (mounts.Unsound c.in-Some.rule, broken, refl)
