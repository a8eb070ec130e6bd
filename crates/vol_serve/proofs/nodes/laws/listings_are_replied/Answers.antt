use Rattle.vol_serve.proofs.RepliedNodes.{listings_replied}
use Rattle.vol_serve.proofs.nodes.laws.listings_are_replied.Goals as goal

pub returns : goal.returns
returns c = listings_replied
