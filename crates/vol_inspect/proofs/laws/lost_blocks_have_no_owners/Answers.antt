use Rattle.vol_inspect.proofs.LostBlocks.{shows_lost}
use Rattle.vol_inspect.proofs.laws.lost_blocks_have_no_owners.Goals as goal

pub returns : goal.returns
returns c = shows_lost
