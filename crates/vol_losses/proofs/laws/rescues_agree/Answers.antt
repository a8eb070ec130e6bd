use Rattle.vol_losses.proofs.BadLaws.{rescue_agrees}
use Rattle.vol_losses.proofs.laws.rescues_agree.Goals as goal

pub returns : goal.returns
returns c = rescue_agrees
