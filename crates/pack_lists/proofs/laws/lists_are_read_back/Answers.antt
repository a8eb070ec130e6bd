use Rattle.pack_lists.proofs.ReadBack.{lists_back}
use Rattle.pack_lists.proofs.laws.lists_are_read_back.Goals as goal

pub returns : goal.returns
returns c = lists_back c.members_are_read_back.ensures
