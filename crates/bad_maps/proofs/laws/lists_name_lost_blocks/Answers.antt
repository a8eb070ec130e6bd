use Rattle.bad_maps.proofs.ListedBlocks.{lists_name_lost}
use Rattle.bad_maps.proofs.laws.lists_name_lost_blocks.Goals as goal

pub returns : goal.returns
returns c = lists_name_lost
