use Rattle.std.proofs.Common.{◌≡◌, ◌-◌, Some}
use Rattle.vol_judge.specs.Marks.{marked}
use Rattle.vol_judge.proofs.AllBlocks.{files_from}
use Rattle.vol_judge.proofs.shared_blocks.find_twice.Given as goal

-- Invariant: the blocks of the files before i are marked.
abbrev pub invariant-loop-i : goal.invariant-loop-i
invariant-loop-i l = marked l.initial.marks (files_from l.geometry l.image (l.i - 1)) ≡ Some l.marks
