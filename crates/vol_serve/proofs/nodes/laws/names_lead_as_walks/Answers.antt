use Rattle.vol_serve.proofs.RepliedNodes.{names_lead_as_walks}
use Rattle.vol_serve.proofs.nodes.laws.names_lead_as_walks.Goals as goal

pub returns : goal.returns
returns c = names_lead_as_walks
