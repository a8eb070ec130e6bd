use Rattle.std.proofs.Common.{◌≡◌, ℕ, ◌+◌, ◌≤◌, false, length, take}
use Rattle.std.specs.Prelude.{slice_index_or}
use Rattle.std.specs.List.{list_any}
use Rattle.vol_rescue.specs.Repaired.{is_member_of}
use Rattle.vol_rescue.proofs.repaired.member_marks.Given as goal

-- Invariant: the i-numbers of the members so far are marked.
abbrev pub invariant-loop-found : goal.invariant-loop-found
invariant-loop-found l = record {
  count : length l.marks.items ≡ l.geometry.last_inode + 1;
  marks : (i : ℕ) → i ≤ l.geometry.last_inode → slice_index_or l.marks.items i false ≡ list_any (is_member_of i) (take l.found-index l.founds);
}
