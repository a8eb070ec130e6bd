use Rattle.std.proofs.Common.{◌+◌, sym, ◌∙◌, arith}
use Rattle.vol_judge.proofs.Insides.{knows_nothing}
use Rattle.vol_judge.proofs.Outsides.{file_none, file_some, files_next, files_hold}
use Rattle.vol_judge.proofs.outside_blocks.find_outside.Goals as goal

pub loop-i-init : goal.loop-i-init
loop-i-init c = record {
  files = λ j first before. absurd (omega arith);
  known = knows_nothing c.args.geometry.now c.args.image.now c.clear.new.marks c.clear.ensures;
}

pub returns-in-Some : goal.returns-in-Some
returns-in-Some c =
    let g = c.args.geometry.now in
    let image = c.args.image.now in (
      record {
        first = c.loop-i.auto.i;
        last = omega arith;
        before = c.loop-i.invariant.files;
        outside = sym c.in-Some.ensures.exact;
      },
      file_some g image c.loop-i.i c.in-Some.number c.loop-i.auto.i (omega arith) (sym c.in-Some.ensures.exact),
    )

pub loop-i-preserved : goal.loop-i-preserved
loop-i-preserved c =
    let g = c.args.geometry.now in
    let image = c.args.image.now in
    record {
      files = files_next g image c.loop-i.i c.loop-i.invariant.files
          (file_none g image c.loop-i.i (sym c.outside_in.ensures.exact ∙ c.in_default.is));
      known = c.outside_in.ensures.known;
    }

pub returns-in_default : goal.returns-in_default
returns-in_default c =
    let g = c.args.geometry.now in
    let image = c.args.image.now in
    files_hold g image (c.loop-i.i + 1) (omega arith)
    (files_next g image c.loop-i.i c.loop-i.invariant.files
    (file_none g image c.loop-i.i (sym c.outside_in.ensures.exact ∙ c.in_default.is)))
