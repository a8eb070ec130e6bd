use Rattle.std.proofs.Common.{Some, arith}
use Rattle.std.specs.Option.{option_eq}
use Rattle.std.proofs.Math.Dec.{eqb}
use Rattle.vol_judge.proofs.Decisions.{fails, not_true, not_false, same_option, other_option}
use Rattle.vol_judge.proofs.Parents.{themselves_named, themselves_other, dots_until, dots_all}
use Rattle.vol_judge.proofs.directories.dots.note_ups.Goals as goal
use Rattle.vol_judge.proofs.directories.dots.note_ups.Goals.{else-loop-d-test, then-loop-d-test+else-d-d-end, then-is_directory+else-ne, else-is_directory}

pub returns-then-ne : goal.returns-then-ne
returns-then-ne c =
    let own = c.dots_in-dots.result.own in
    let d = c.loop-d.d in
    let other = not_true c.ne.result (option_eq eqb own (Some d)) c.ne.ensures c.if-ne.true in
    dots_until c.loop-d.invariant.named (c.is_directory.ensures.0 c.if-is_directory.true)
    (λ itself. other_option own d other (c.dots_in-dots.ensures.own.all itself.0 d itself.1))

pub loop-d-preserved : goal.loop-d-preserved
loop-d-preserved c =
    let d = c.loop-d.d in
    let room = c.loop-d.invariant.named.named.room in
    record {
      named = elim c.if-is_directory.branch [
        | then-is_directory+else-ne w ↦
            let same = same_option w.dots_in-dots.result.own d (not_false w.ne.result (option_eq eqb w.dots_in-dots.result.own (Some d)) w.ne.ensures w.if-ne.false) in
            rw w.numbers-is (themselves_named c.loop-d.invariant.named w.dots_in-dots.ensures.own same w.dots_in-dots.ensures.up (omega arith))
        | else-is_directory w ↦ rw w.numbers-is (themselves_other c.loop-d.invariant.named (fails c.is_directory.result c.is_directory.ensures w.if-is_directory.false))
      ];
      marks = elim c.if-is_directory.branch [
        | then-is_directory+else-ne w ↦ rw w.marks-is w.dots_in-dots.ensures.marks
        | else-is_directory w ↦ rw w.marks-is c.loop-d.invariant.marks
      ];
    }

pub returns : goal.returns
returns c =
    let d = c.loop-d.d in
    let room = c.loop-d.invariant.named.named.room in
    elim c.loop-d-test.branch [
      | else-loop-d-test w ↦ rw w.numbers-is (dots_all c.loop-d.invariant.named (omega arith))
      | then-loop-d-test+else-d-d-end w ↦ rw w.numbers-is (elim w.if-is_directory.branch [
        | then-is_directory+else-ne v ↦
            let same = same_option v.dots_in-dots.result.own d (not_false v.ne.result (option_eq eqb v.dots_in-dots.result.own (Some d)) v.ne.ensures v.if-ne.false) in
            rw v.numbers-is (dots_all (themselves_named c.loop-d.invariant.named v.dots_in-dots.ensures.own same v.dots_in-dots.ensures.up (omega arith)) (omega arith))
        | else-is_directory v ↦ rw v.numbers-is (dots_all (themselves_other c.loop-d.invariant.named
            (fails w.is_directory.result w.is_directory.ensures v.if-is_directory.false)) (omega arith))
      ])
    ]
