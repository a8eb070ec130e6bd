use Rattle.std.proofs.Common.{◌≡◌, ◌+◌, ◌*◌}
use Rattle.vol_layout.specs.Slot.{slot_at}
use Rattle.vol_dir.specs.Entries.{entry_in}
use Rattle.count_table.specs.Sums.{below}
use Rattle.vol_check.specs.LineCounts.{named_one}
use Rattle.vol_check.proofs.memory_check.count_slots.Given as goal

-- Invariant: the entries in the slots before `s` are counted.
abbrev pub invariant-loop-s : goal.invariant-loop-s
invariant-loop-s l = l.count ≡ below (λ t. named_one (entry_in (slot_at l.image (512 * l.k + 16 * t)))) l.s
