use Rattle.std.proofs.Common.{◌<◌, ◌+◌, arith}
use Rattle.vol_dir.specs.Entries.{IsDirectory}
use Rattle.vol_judge.specs.DirectoryNames.{HasEntriesIn}
use Rattle.vol_judge.proofs.Decisions.{holds, fails}
use Rattle.vol_judge.proofs.CollectedNames.{each_more, each_holds, fails_in}
use Rattle.vol_judge.proofs.entries.find_marked.Goals as goal
use Rattle.vol_judge.proofs.entries.find_marked.Goals.{then-is_directory+in_ok-finding+in_default, else-is_directory}

pub returns-in-Some : goal.returns-in-Some
returns-in-Some c =
    let is = holds c.is_directory.result c.is_directory.ensures c.if-is_directory.true in
    let found = rw c.in-Some.is at c.in_ok-finding.ensures.found in
    (record { d = c.loop-d.d; directory = is; before = c.loop-d.invariant.entries; first = found.0 }, fails_in is found.1)

pub loop-d-preserved : goal.loop-d-preserved
loop-d-preserved c = record {
  entries = each_more c.loop-d.invariant.entries (λ is. elim c.if-is_directory.branch [
    | then-is_directory+in_ok-finding+in_default w ↦ rw w.in_default.is at w.in_ok-finding.ensures.found
    | else-is_directory w ↦ absurd (fails c.is_directory.result c.is_directory.ensures w.if-is_directory.false is)
  ]);
  marks = elim c.if-is_directory.branch [
    | then-is_directory+in_ok-finding+in_default w ↦ rw w.marks-is w.in_ok-finding.ensures.marks
    | else-is_directory w ↦ rw w.marks-is c.loop-d.invariant.marks
  ];
}

pub returns-after-is_directory : goal.returns-after-is_directory
returns-after-is_directory c =
    let each : (e : _) → e < c.loop-d.d + 1 → IsDirectory c.args.geometry.now c.args.image.now e → HasEntriesIn c.args.geometry.now c.args.image.now e =
    each_more c.loop-d.invariant.entries (λ is. elim c.if-is_directory.branch [
      | then-is_directory+in_ok-finding+in_default w ↦ rw w.in_default.is at w.in_ok-finding.ensures.found
      | else-is_directory w ↦ absurd (fails c.is_directory.result c.is_directory.ensures w.if-is_directory.false is)
    ]) in
    each_holds (c.loop-d.d + 1) each (omega arith)
