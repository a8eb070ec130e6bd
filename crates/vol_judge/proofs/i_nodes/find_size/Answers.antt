use Rattle.std.proofs.Common.{◌+◌, arith}
use Rattle.vol_judge.specs.Limits.{IsSized, IsLinked}
use Rattle.vol_judge.proofs.Limits.{up_to, sizes_of_all}
use Rattle.vol_judge.proofs.i_nodes.find_size.Goals as goal

pub loop-i-preserved : goal.loop-i-preserved
loop-i-preserved c = record {
  sized = up_to (IsSized c.args.geometry.now c.args.image.now) c.loop-i.i c.loop-i.invariant.sized (c.is_sized.ensures.0 c.if-not-is_sized.false);
  linked = up_to (IsLinked c.args.geometry.now c.args.image.now) c.loop-i.i c.loop-i.invariant.linked (c.is_linked.ensures.0 c.if-not-is_linked.false);
}

pub returns-else-not-is_linked : goal.returns-else-not-is_linked
returns-else-not-is_linked c =
    sizes_of_all (c.loop-i.i + 1) (omega arith)
    (up_to (IsSized c.args.geometry.now c.args.image.now) c.loop-i.i c.loop-i.invariant.sized (c.is_sized.ensures.0 c.if-not-is_sized.false))
    (up_to (IsLinked c.args.geometry.now c.args.image.now) c.loop-i.i c.loop-i.invariant.linked (c.is_linked.ensures.0 c.if-not-is_linked.false))
