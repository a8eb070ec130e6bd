use Rattle.std.proofs.Common.{◌+◌, ◌*◌, ◌∙◌, arith}
use Rattle.vol_mkfs.proofs.BlankWrites.{written_part, written_all, written_volume}
use Rattle.vol_mkfs.proofs.blank.blocks.write_blocks.Goals as goal

pub returns-in-Err-clause-part : goal.returns-in-Err-clause-part
returns-in-Err-clause-part g c =
    written_part c.args.geometry.now c.args.first.now c.gather.new.buffer c.loop-next.next c.min-end.result (omega (arith, c.min-end.ensures))
    (omega (arith, c.min-end.ensures)) (omega (arith, c.min-end.ensures)) c.gather.ensures _ _ _ c.in-Err.fault.written
    (c.from.result * 512 + c.in-Err.fault.written) (omega (arith, c.from.ensures)) c.loop-next.invariant.taken c.in-Err.ensures.part

pub loop-next-preserved : goal.loop-next-preserved
loop-next-preserved g c = record {
  within = omega (arith, c.min-end.ensures);
  taken = written_all c.args.geometry.now c.args.first.now c.gather.new.buffer c.loop-next.next c.min-end.result (omega (arith, c.min-end.ensures))
      (omega (arith, c.min-end.ensures)) (omega (arith, c.min-end.ensures)) c.gather.ensures _ _ _ c.loop-next.invariant.taken c.in_default.ensures.ok;
  working = c.in_default.ensures.working ∙ c.loop-next.invariant.working;
}

pub returns-clause-ok : goal.returns-clause-ok
returns-clause-ok g c =
    written_volume c.args.geometry.now c.args.first.now _ _ c.loop-next.next (omega arith) c.loop-next.invariant.taken
