use Rattle.vol_dir.proofs.PathJoins.{walk-nothing, walk-onward}
use Rattle.vol_dir.proofs.laws.walks_begin_at_the_root.Goals as goal

pub returns : goal.returns
returns c = record { root = walk-nothing; onward = walk-onward }
