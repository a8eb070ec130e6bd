use Rattle.std.proofs.Common.{◌≡◌, ◌+◌, ◌-◌, arith}
use Rattle.vol_judge.proofs.MoreMarks.{ext_begin, ext_file, ext_all, known_none}
use Rattle.vol_judge.proofs.used_blocks.mark_named.Goals as goal

pub loop-i-init : goal.loop-i-init
loop-i-init c = record {
  files = ext_begin c.args.geometry.now c.args.image.now (1 - 1) c.clear.new.marks (omega arith);
  known = known_none c.args.geometry.now c.args.image.now c.clear.new.marks c.clear.ensures;
}

pub loop-i-preserved : goal.loop-i-preserved
loop-i-preserved c = record {
  files = ext_file c.args.geometry.now c.args.image.now c.loop-i.i (c.loop-i.i - 1) (c.loop-i.i + 1 - 1) c.clear.new.marks c.loop-i.marks c.mark_file.new.marks
      (omega (arith, c.loop-i.auto.i)) (omega (arith, c.loop-i.auto.i)) c.loop-i.invariant.files c.mark_file.ensures.extends;
  known = c.mark_file.ensures.known;
}

pub returns-2 : goal.returns-2
returns-2 c =
    let g = c.args.geometry.now in
    let image = c.args.image.now in
    let last : c.loop-i.i ≡ g.last_inode = omega arith in
    ext_all g image c.clear.new.marks c.mark_file.new.marks c.requires.fits c.clear.ensures
    (ext_file g image c.loop-i.i (c.loop-i.i - 1) g.last_inode c.clear.new.marks c.loop-i.marks c.mark_file.new.marks
    (omega (arith, c.loop-i.auto.i, last)) (omega (arith, c.loop-i.auto.i)) c.loop-i.invariant.files c.mark_file.ensures.extends)
