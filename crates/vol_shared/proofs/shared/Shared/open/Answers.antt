use Rattle.std.proofs.Common.{◌∙◌}
use Rattle.vol_shared.proofs.ClosedVolumes.{same_volume}
use Rattle.vol_shared.proofs.shared.Shared.open.Goals as goal

pub returns-in_default-clause-handed_back : goal.returns-in_default-clause-handed_back
returns-in_default-clause-handed_back c = same_volume c.into_volume.result c.args.volume (c.into_volume.ensures.stored ∙ c.in-Ok.ensures.stored)

pub returns-in-Err-lay-clause-handed_back : goal.returns-in-Err-lay-clause-handed_back
returns-in-Err-lay-clause-handed_back c =
    same_volume c.into_volume-in-Err-lay.result c.args.volume (c.into_volume-in-Err-lay.ensures.stored ∙ (c.in-Err-lay.ensures.handed_back ∙ c.in-Ok.ensures.stored))
