use Rattle.std.proofs.Common.{◌≡◌, ◌+◌, ◌-◌, sym, ap, arith, ◌∙◌, Some}
use Rattle.vol_judge.specs.Marks.{marked}
use Rattle.vol_judge.proofs.AllBlocks.{files_from, files_all, files_none, files_more, all_marked}
use Rattle.vol_judge.proofs.Agains.{file_breaks, file_twice}
use Rattle.vol_judge.proofs.shared_blocks.find_twice.Goals as goal

pub loop-i-init : goal.loop-i-init
loop-i-init c = files_none c.args.geometry.now c.args.image.now c.clear.new.marks (1 - 1) (omega arith)

pub returns-in-Some-clause-twice : goal.returns-in-Some-clause-twice
returns-in-Some-clause-twice c = (
  file_twice c.args.geometry.now c.args.image.now c.loop-i.i c.in-Some.b c.clear.new.marks c.loop-i.marks (omega (arith, c.loop-i.auto.i)) (omega arith)
      c.requires.zoned (omega (arith, c.clear.auto.marks, c.requires.len)) c.clear.ensures c.loop-i.invariant c.in-Some.ensures.twice,
  file_breaks c.args.geometry.now c.args.image.now c.loop-i.i c.in-Some.b c.clear.new.marks c.loop-i.marks (omega (arith, c.loop-i.auto.i)) (omega arith)
      c.requires.zoned (omega (arith, c.clear.auto.marks, c.requires.len)) c.clear.ensures c.loop-i.invariant c.in-Some.ensures.twice,
)

pub loop-i-preserved : goal.loop-i-preserved
loop-i-preserved c =
    files_more c.args.geometry.now c.args.image.now c.loop-i.i (c.loop-i.i - 1) (c.loop-i.i + 1 - 1) c.clear.new.marks c.loop-i.marks (Some c.again_in.new.marks)
    (omega (arith, c.loop-i.auto.i)) (omega (arith, c.loop-i.auto.i)) c.loop-i.invariant c.in_default.ensures.fresh

pub returns-in_default : goal.returns-in_default
returns-in_default c =
    let g = c.args.geometry.now in
    let image = c.args.image.now in
    let last : c.loop-i.i ≡ g.last_inode = omega arith in
    let files : marked c.clear.new.marks (files_from g image g.last_inode) ≡ Some c.again_in.new.marks =
    files_more g image c.loop-i.i (c.loop-i.i - 1) g.last_inode c.clear.new.marks c.loop-i.marks (Some c.again_in.new.marks)
    (omega (arith, c.loop-i.auto.i)) (omega (arith, c.loop-i.auto.i, last)) c.loop-i.invariant c.in_default.ensures.fresh in
    let all = all_marked g image c.clear.new.marks c.again_in.new.marks c.requires.fits c.requires.zoned
    (omega (arith, c.clear.auto.marks, c.requires.len)) c.clear.ensures (ap (marked c.clear.new.marks) (sym (files_all g image)) ∙ files) in
    record { twice = all.0; marks = all.1 }
