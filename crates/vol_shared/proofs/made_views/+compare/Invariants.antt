use Rattle.std.proofs.Common.{length}
use Rattle.vol_shared.proofs.made_views.+compare.Given as goal

abbrev pub decreases-compare : goal.decreases-compare
decreases-compare l = length l.views.now
