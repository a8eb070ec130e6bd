use Rattle.std.proofs.Common.{arith}
use Rattle.vol_mkfs.proofs.BlankBlocks.{gathered_more}
use Rattle.vol_mkfs.proofs.blank.blocks.gather.Goals as goal

pub loop-b-preserved : goal.loop-b-preserved
loop-b-preserved c =
    gathered_more c.args.geometry.now c.args.first.now c.loop-b.buffer c.put_block.new.buffer c.args.from c.loop-b.b (omega arith) c.loop-b.invariant
    c.put_block.ensures.others.below c.put_block.ensures.put
