use Rattle.vol_mounted.proofs.NodeNumbers.{numbers_apart}
use Rattle.vol_mounted.proofs.laws.numbers_stay_apart.Goals as goal

pub returns : goal.returns
returns c = numbers_apart
