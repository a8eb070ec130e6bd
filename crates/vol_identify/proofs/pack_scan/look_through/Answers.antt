use Rattle.std.proofs.Common.{◌∙◌, ◌+◌, sym, ap, refl, arith}
use Rattle.pdp_words.specs.Words.{block_of}
use Rattle.vol_identify.specs.Front.{front_at}
use Rattle.vol_identify.specs.Packs.{step, through}
use Rattle.vol_identify.proofs.PackScans.{through_more}
use Rattle.vol_identify.proofs.pack_scan.look_through.Goals as goal

pub look-requires-clause-there : goal.look-requires-clause-there
look-requires-clause-there c = c.requires.more c.loop-k.k (omega arith)

pub loop-k-init : goal.loop-k-init
unfolding through
loop-k-init c = refl

pub loop-k-preserved : goal.loop-k-preserved
loop-k-preserved c =
    c.in_ok-found.ensures
    ∙ (ap (step c.args.blocks (c.args.at + c.loop-k.k) (front_at c.args.window.now c.loop-k.k) (block_of c.args.window.now c.loop-k.k)) c.loop-k.invariant
    ∙ sym (through_more _ _ _ _ _))
