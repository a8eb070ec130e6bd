use Rattle.vol_rescue.proofs.RightMembers.{cut_archives_right}
use Rattle.vol_rescue.proofs.laws.cut_archives_are_right.Goals as goal

pub returns : goal.returns
returns c = cut_archives_right
