use Rattle.vol_archive.proofs.MemberNodes.{members_have_nodes}
use Rattle.vol_archive.proofs.laws.members_have_nodes.Goals as goal

pub returns : goal.returns
returns c = members_have_nodes
