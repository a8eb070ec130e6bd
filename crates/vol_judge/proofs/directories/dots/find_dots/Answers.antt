use Rattle.std.proofs.Common.{◌+◌, arith}
use Rattle.vol_judge.proofs.Decisions.{holds, fails}
use Rattle.vol_judge.proofs.Dotted.{each_keeps, keep_more, keep_all, none_before}
use Rattle.vol_judge.proofs.directories.dots.find_dots.Goals as goal
use Rattle.vol_judge.proofs.directories.dots.find_dots.Goals.{then-is_directory+in_default, else-is_directory}

pub returns-in-Some : goal.returns-in-Some
returns-in-Some c =
    let is = holds c.is_directory.result c.is_directory.ensures c.if-is_directory.true in
    let wrong = c.in-Some.ensures c.args.image.now is c.requires.ups (none_before c.requires.ups c.loop-d.invariant) c.requires.parents in (
      record { d = c.loop-d.d; directory = is; before = c.loop-d.invariant; wrong = wrong.0 },
      λ rule. wrong.1 (each_keeps rule c.loop-d.d is),
    )

pub loop-d-preserved : goal.loop-d-preserved
loop-d-preserved c =
    keep_more c.loop-d.d c.loop-d.invariant (λ is. elim c.if-is_directory.branch [
      | then-is_directory+in_default w ↦ w.in_default.ensures c.args.image.now is c.requires.ups (none_before c.requires.ups c.loop-d.invariant) c.requires.parents
      | else-is_directory w ↦ absurd (fails c.is_directory.result c.is_directory.ensures w.if-is_directory.false is)
    ])

pub returns-after-is_directory : goal.returns-after-is_directory
returns-after-is_directory c =
    keep_all (c.loop-d.d + 1) (keep_more c.loop-d.d c.loop-d.invariant (λ is. elim c.if-is_directory.branch [
      | then-is_directory+in_default w ↦ w.in_default.ensures c.args.image.now is c.requires.ups (none_before c.requires.ups c.loop-d.invariant) c.requires.parents
      | else-is_directory w ↦ absurd (fails c.is_directory.result c.is_directory.ensures w.if-is_directory.false is)
    ])) (omega arith)
