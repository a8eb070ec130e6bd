use Rattle.std.proofs.Common.{sym, ◌∙◌}
use Rattle.vol_repair.proofs.Comparison.{block_same}
use Rattle.vol_repair.proofs.compared.is_same_block.Goals as goal

pub returns : goal.returns
returns c = λ found r low.
    block_same c.args.old.now c.args.new.now c.args.k r c.block.result.now c.block-2.result.now (sym found ∙ c.eq.ensures)
    c.block.ensures.bytes c.block-2.ensures.bytes low
