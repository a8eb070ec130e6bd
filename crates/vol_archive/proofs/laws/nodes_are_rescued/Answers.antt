use Rattle.vol_archive.proofs.RescuedNodes.{nodes_rescued}
use Rattle.vol_archive.proofs.laws.nodes_are_rescued.Goals as goal

pub returns : goal.returns
returns c = nodes_rescued
