use Rattle.std.proofs.Common.{◌≡◌, ℕ, ◌-◌, ◌*◌, ◌<◌, ◌≤◌, false}
use Rattle.vol_dir.specs.Entries.{entry_at}
use Rattle.vol_dir.specs.Search.{is_sought}
use Rattle.vol_dir.proofs.entries.first_slot.Given as goal

-- Invariant: none of the slots at or after slot `from`, in the logical blocks before `b`, is a target of the search.
abbrev pub invariant-loop-b : goal.invariant-loop-b
invariant-loop-b l = (t : ℕ) → l.from ≤ t → t < 32 * l.b → t < l.count → is_sought l.sought (entry_at l.geometry l.image l.dir t) ≡ false

abbrev pub decreases-loop-b : goal.decreases-loop-b
decreases-loop-b l = l.blocks - l.b
