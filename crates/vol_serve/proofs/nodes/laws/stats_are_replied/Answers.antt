use Rattle.vol_serve.proofs.RepliedNodes.{stats_replied}
use Rattle.vol_serve.proofs.nodes.laws.stats_are_replied.Goals as goal

pub returns : goal.returns
returns c = stats_replied
