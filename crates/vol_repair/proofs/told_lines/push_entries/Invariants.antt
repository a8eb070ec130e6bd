use Rattle.std.proofs.Common.{ℕ, ◌-◌, ◌<◌, ◌≤◌}
use Rattle.vol_dir.specs.Repeats.{MarksEmpty}
use Rattle.vol_repair.specs.Told.{Grows, TellsSlot}
use Rattle.vol_repair.proofs.told_lines.push_entries.Given as goal

-- Invariant: the slots below `from` are the same or told.
abbrev pub invariant-loop-pair : goal.invariant-loop-pair
invariant-loop-pair l = record {
  low : l.from ≤ 67637568;
  grows : Grows l.geometry l.old l.new l.d l.fn.lines.items l.lines.items;
  told : (s : ℕ) → s < l.from → TellsSlot l.geometry l.old l.new l.d s l.lines.items;
  old_marks : MarksEmpty l.geometry l.old l.old_marks;
  new_marks : MarksEmpty l.geometry l.new l.new_marks;
}

abbrev pub decreases-loop-pair : goal.decreases-loop-pair
decreases-loop-pair l = 67637569 - l.from
