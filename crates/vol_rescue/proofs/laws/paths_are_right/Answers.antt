use Rattle.vol_rescue.proofs.RightPaths.{paths_right}
use Rattle.vol_rescue.proofs.laws.paths_are_right.Goals as goal

pub returns : goal.returns
returns c = paths_right
