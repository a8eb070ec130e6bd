use Rattle.std.proofs.Common.{◌≡◌, ℕ, ◌+◌, ◌≤◌, length, take}
use Rattle.count_table.specs.Tallies.{items_of}
use Rattle.vol_reports.specs.Climb.{HasNaming}
use Rattle.vol_reports.proofs.ncheck.naming_entries.Given as goal

-- Invariant: the naming entries among the entries so far have been added.
abbrev pub invariant-loop-entry : goal.invariant-loop-entry
invariant-loop-entry l = record {
  room : length l.naming.items ≡ l.geometry.last_inode + 1;
  named : (i : ℕ) → i ≤ l.geometry.last_inode → HasNaming (items_of l.words) (take l.entry-index l.entries) l.naming.items i;
}
