use Rattle.std.proofs.Common.{◌*◌, ◌+◌}
use Rattle.vol_layout.specs.Slot.{slot_at}
use Rattle.vol_dir.specs.Entries.{entry_in}
use Rattle.count_table.specs.Sums.{below}
use Rattle.vol_check.specs.Pieces.{Adds}
use Rattle.vol_check.specs.Slots.{entry_weight}
use Rattle.vol_check.proofs.entry_counts.count_block.Given as goal

-- Invariant: the slots before `s` are counted.
abbrev pub invariant-loop-s : goal.invariant-loop-s
invariant-loop-s l = Adds l.tally l.fn.seat l.seat
    (λ weight. l.n.times * below (λ t. entry_weight l.geometry weight (entry_in (slot_at l.image (512 * l.n.number + 16 * t)))) l.s)
