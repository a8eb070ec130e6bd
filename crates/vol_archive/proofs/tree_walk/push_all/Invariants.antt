use Rattle.std.proofs.Common.{◌≡◌, ◌++◌, length}
use Rattle.std.specs.Prelude.{reverse}
use Rattle.vol_archive.proofs.tree_walk.push_all.Given as goal

-- Invariant: the entries left, followed by the pending ones, are the same as at the start.
abbrev pub invariant-loop-entry : goal.invariant-loop-entry
invariant-loop-entry l = l.entries.items ++ reverse l.pending.items ≡ l.initial.entries.items ++ reverse l.initial.pending.items

abbrev pub decreases-loop-entry : goal.decreases-loop-entry
decreases-loop-entry l = length l.entries.items
