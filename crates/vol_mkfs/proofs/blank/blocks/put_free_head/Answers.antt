use Rattle.std.proofs.Common.{◌≡◌, ap, arith}
use Rattle.vol_layout.specs.Edition.{constants}
use Rattle.vol_mkfs.proofs.BlankHeads.{head_stands}
use Rattle.vol_mkfs.proofs.blank.blocks.put_free_head.Goals as goal

pub returns-clause-head : goal.returns-clause-head
returns-clause-head c =
    let geometry = c.args.geometry.now in
    let slots : c.constants-j-end.result.free_slots ≡ (constants geometry.edition).free_slots = ap (λ k. k.free_slots) c.constants-j-end.ensures in
    head_stands geometry c.loop-j.bytes c.args.at c.args.top c.args.count c.loop-j.invariant.small c.loop-j.invariant.count
    (λ j h. c.loop-j.invariant.numbers j (omega arith))
