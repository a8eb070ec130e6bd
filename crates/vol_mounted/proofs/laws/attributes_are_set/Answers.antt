use Rattle.vol_mounted.proofs.SetAttributes.{attributes_set}
use Rattle.vol_mounted.proofs.laws.attributes_are_set.Goals as goal

pub returns : goal.returns
returns c = attributes_set
