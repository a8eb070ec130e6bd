use Rattle.vol_mounted.proofs.WrittenFiles.{writes_read}
use Rattle.vol_mounted.proofs.laws.writes_are_read.Goals as goal

pub returns : goal.returns
returns c = writes_read
