use Rattle.std.proofs.Common.{arith}
use Rattle.unixvol.proofs.VisitedBelow.{started_next}
use Rattle.unixvol.proofs.identify_below.start.Goals as goal

pub images-preserved : goal.images-preserved
images-preserved g c =
    started_next g.R.ImageFiles.stood c.args.images.now c.images.image-index _ c.images.stack.items _ _ (omega arith) c.images.invariant c.in_ok-found_at.ensures
    c.in_ok-push.ensures.items
