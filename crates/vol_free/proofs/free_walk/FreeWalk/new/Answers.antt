use Rattle.std.proofs.Common.{refl}
use Rattle.vol_free.proofs.FreeWalks.{starts}
use Rattle.vol_free.proofs.free_walk.FreeWalk.new.Goals as goal

pub returns : goal.returns
returns c = λ marks. starts c.args.geometry.now c.args.image.now marks _ c.requires c.free_head.ensures c.free_count.ensures refl
