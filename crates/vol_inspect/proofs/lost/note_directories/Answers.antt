use Rattle.std.proofs.Common.{◌+◌, arith}
use Rattle.vol_judge.proofs.Decisions.{fails}
use Rattle.vol_inspect.proofs.LostNames.{below_first, below_noted, below_other, below_all}
use Rattle.vol_inspect.proofs.lost.note_directories.Goals as goal
use Rattle.vol_inspect.proofs.lost.note_directories.Goals.{then-is_directory, else-is_directory}

pub loop-d-init : goal.loop-d-init
loop-d-init c = below_first c.args.geometry.now c.args.image.now c.args.named.now c.args.marks.now c.requires.room c.requires.none c.requires.clear

pub loop-d-preserved : goal.loop-d-preserved
loop-d-preserved c = elim c.if-is_directory.branch [
  | then-is_directory w ↦ rw (w.named-is, w.marks-is)
      (below_noted c.args.geometry.now c.args.image.now c.loop-d.d c.loop-d.named w.note_directory.new.named c.loop-d.marks w.note_directory.new.marks
      c.loop-d.invariant w.note_directory.ensures.noted w.note_directory.ensures.marks)
  | else-is_directory w ↦ rw (w.named-is, w.marks-is)
      (below_other c.args.geometry.now c.args.image.now c.loop-d.d c.loop-d.named c.loop-d.marks c.loop-d.invariant
      (fails c.is_directory.result c.is_directory.ensures w.if-is_directory.false))
]

pub returns-after-is_directory : goal.returns-after-is_directory
returns-after-is_directory c =
    let geometry = c.args.geometry.now in
    let image = c.args.image.now in
    elim c.if-is_directory.branch [
      | then-is_directory w ↦ rw w.named-is (below_all geometry image (c.loop-d.d + 1) w.note_directory.new.named w.note_directory.new.marks
          (below_noted geometry image c.loop-d.d c.loop-d.named w.note_directory.new.named c.loop-d.marks w.note_directory.new.marks
          c.loop-d.invariant w.note_directory.ensures.noted w.note_directory.ensures.marks) (omega arith))
      | else-is_directory w ↦ rw w.named-is (below_all geometry image (c.loop-d.d + 1) c.loop-d.named c.loop-d.marks
          (below_other geometry image c.loop-d.d c.loop-d.named c.loop-d.marks c.loop-d.invariant
          (fails c.is_directory.result c.is_directory.ensures w.if-is_directory.false)) (omega arith))
    ]
