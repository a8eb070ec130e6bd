use Rattle.vol_rescue.proofs.RightMembers.{archives_right, members_right}
use Rattle.vol_rescue.proofs.laws.members_are_right.Goals as goal

pub returns-clause-members : goal.returns-clause-members
returns-clause-members c = members_right

pub returns-clause-archive : goal.returns-clause-archive
returns-clause-archive c = archives_right
