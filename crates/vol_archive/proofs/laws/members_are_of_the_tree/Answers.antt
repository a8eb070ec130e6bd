use Rattle.vol_archive.proofs.TreeMembers.{members_lead}
use Rattle.vol_archive.proofs.laws.members_are_of_the_tree.Goals as goal

pub returns : goal.returns
returns c = members_lead
