use Rattle.vol_losses.proofs.CutLaws.{cut_agrees}
use Rattle.vol_losses.proofs.laws.cut_images_agree.Goals as goal

pub returns : goal.returns
returns c = cut_agrees
