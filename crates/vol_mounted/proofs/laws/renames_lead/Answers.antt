use Rattle.vol_mounted.proofs.RenamedNames.{renames_led}
use Rattle.vol_mounted.proofs.laws.renames_lead.Goals as goal

pub returns : goal.returns
returns c = renames_led
