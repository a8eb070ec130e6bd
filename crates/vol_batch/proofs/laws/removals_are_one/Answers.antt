use Rattle.vol_batch.proofs.TakenPaths.{takes_once}
use Rattle.vol_batch.proofs.laws.removals_are_one.Goals as goal

pub returns : goal.returns
returns c tree path now calls others one other = takes_once tree now _ calls others one.takes other.takes
