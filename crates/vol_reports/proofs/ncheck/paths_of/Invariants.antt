use Rattle.std.proofs.Common.{◌≡◌, ◌+◌, [], length, map, take}
use Rattle.vol_judge.specs.Directories.{root_of}
use Rattle.vol_reports.specs.Climb.{AreBefore, path_in, seen_pair}
use Rattle.vol_reports.proofs.ncheck.paths_of.Given as goal

-- Invariant: the paths of the entries before `k` have been added.
abbrev pub invariant-loop-k : goal.invariant-loop-k
invariant-loop-k l = record {
  room : length l.marks.items ≡ length l.naming;
  early : AreBefore (l.k + 1) l.marks.items;
  way : l.way.items ≡ [];
  paths : map seen_pair l.paths.items ≡ map (path_in (root_of l.geometry) l.naming) (take l.k l.entries);
}
