use Rattle.std.proofs.Common.{◌≡◌}
use Rattle.std.specs.List.{flat_map, range_with_len}
use Rattle.vol_rescue.specs.Lines.{lost_inodes_line}
use Rattle.vol_rescue.proofs.lines.inode_lines.Given as goal

-- Invariant: the lines of the blocks before `b` have been added.
abbrev pub invariant-loop-b : goal.invariant-loop-b
invariant-loop-b l = l.lines.items ≡ flat_map (lost_inodes_line l.geometry l.lost) (range_with_len 0 l.b)
