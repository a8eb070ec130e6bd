use Rattle.vol_archive.proofs.NamedEntries.{entries_have_nodes}
use Rattle.vol_archive.proofs.laws.entries_have_nodes.Goals as goal

pub returns : goal.returns
returns c = entries_have_nodes
