use Rattle.vol_repair.proofs.LongerCopies.{copied}
use Rattle.vol_repair.proofs.laws.longer_copies_are_copies.Goals as goal

pub returns : goal.returns
returns c = λ edition blocks old longer new lines longest repaired. copied edition blocks old longer new lines longest repaired
