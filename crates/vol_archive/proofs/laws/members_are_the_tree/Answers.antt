use Rattle.vol_archive.proofs.WholeTrees.{members_are_tree}
use Rattle.vol_archive.proofs.laws.members_are_the_tree.Goals as goal

pub returns : goal.returns
returns c = members_are_tree
