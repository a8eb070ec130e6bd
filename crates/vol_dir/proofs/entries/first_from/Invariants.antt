use Rattle.std.proofs.Common.{◌+◌, ◌*◌}
use Rattle.vol_layout.specs.Slot.{slot_at}
use Rattle.vol_dir.specs.Entries.{entry_in}
use Rattle.vol_dir.specs.Search.{IsMissing}
use Rattle.vol_dir.proofs.entries.first_from.Given as goal

-- Invariant: none of the slots `start..s` is a target of the search.
abbrev pub invariant-loop-s : goal.invariant-loop-s
invariant-loop-s l = IsMissing l.sought (λ t. entry_in (slot_at l.image (l.at + 16 * t))) l.start l.s
