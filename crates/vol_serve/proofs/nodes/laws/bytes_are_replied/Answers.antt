use Rattle.vol_serve.proofs.RepliedNodes.{bytes_replied}
use Rattle.vol_serve.proofs.nodes.laws.bytes_are_replied.Goals as goal

pub returns : goal.returns
returns c = bytes_replied
