use Rattle.vol_archive.proofs.MemberOrder.{members_ascend, members_differ}
use Rattle.vol_archive.proofs.laws.members_ascend.Goals as goal

pub returns : goal.returns
returns c = record { ascending = members_ascend; once = members_differ }
