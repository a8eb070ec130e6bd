use Rattle.std.proofs.Common.{◌≡◌, map}
use Rattle.vol_reports.specs.Ncheck.{name_line}
use Rattle.vol_reports.specs.Climb.{seen_pair}
use Rattle.vol_reports.proofs.ncheck.lines_of.Given as goal

-- Invariant: the lines of the pairs so far have been added.
abbrev pub invariant-loop-inode : goal.invariant-loop-inode
invariant-loop-inode l = l.lines.items ≡ map name_line (map seen_pair l.yielded)
