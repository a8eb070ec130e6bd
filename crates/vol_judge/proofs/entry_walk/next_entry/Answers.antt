use Rattle.std.proofs.Common.{◌+◌, arith}
use Rattle.vol_judge.specs.Steps.{rank}
use Rattle.vol_judge.proofs.Decisions.{holds, fails}
use Rattle.vol_judge.proofs.PassedEntries.{IsPassed, entry_low, passed_none, passed_other, passed_all, next_of}
use Rattle.vol_judge.proofs.entry_walk.next_entry.Goals as goal
use Rattle.vol_judge.proofs.entry_walk.next_entry.Goals.{then-is_directory+in_default, else-is_directory}

pub returns-in-Some-clause-next : goal.returns-in-Some-clause-next
returns-in-Some-clause-next c =
    next_of c.loop-d.invariant.passed c.loop-d.invariant.reached
    (holds c.is_directory.result c.is_directory.ensures c.if-is_directory.true) c.in-Some.ensures.next

pub loop-d-preserved : goal.loop-d-preserved
loop-d-preserved c =
    let from = rank c.args.from.directory c.args.from.slot in
    record {
      passed = elim c.if-is_directory.branch [
        | then-is_directory+in_default w ↦ passed_none from c.loop-d.d c.loop-d.start c.loop-d.invariant.passed w.in_default.ensures.next
        | else-is_directory w ↦ passed_other from c.loop-d.d c.loop-d.start c.loop-d.invariant.passed
            (fails c.is_directory.result c.is_directory.ensures w.if-is_directory.false)
      ];
      marks = elim c.if-is_directory.branch [
        | then-is_directory+in_default w ↦ rw w.marks-is w.in_default.ensures.marks
        | else-is_directory w ↦ rw w.marks-is c.loop-d.invariant.marks
      ];
      reached = omega arith;
    }

pub returns-clause-next : goal.returns-clause-next
returns-clause-next c =
    let from = rank c.args.from.directory c.args.from.slot in
    λ e t i name has. c.loop-d.invariant.passed e t i name has (omega (arith, entry_low has, has.directory.last))

pub returns-after-is_directory-clause-next : goal.returns-after-is_directory-clause-next
returns-after-is_directory-clause-next c =
    let from = rank c.args.from.directory c.args.from.slot in
    let passed : IsPassed c.args.geometry.now c.args.image.now from (c.loop-d.d + 1) 0 = elim c.if-is_directory.branch [
      | then-is_directory+in_default w ↦ passed_none from c.loop-d.d c.loop-d.start c.loop-d.invariant.passed w.in_default.ensures.next
      | else-is_directory w ↦ passed_other from c.loop-d.d c.loop-d.start c.loop-d.invariant.passed
          (fails c.is_directory.result c.is_directory.ensures w.if-is_directory.false)
    ] in
    passed_all from (c.loop-d.d + 1) passed (omega arith)
