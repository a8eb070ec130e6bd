use Rattle.std.proofs.Common.{◌≡◌, take}
use Rattle.std.specs.List.{flat_map}
use Rattle.command_reads.specs.Dump.{row_line}
use Rattle.command_reads.proofs.dump.rows_text.Given as goal

-- Invariant: the lines of the rows so far have been added.
abbrev pub invariant-loop-row : goal.invariant-loop-row
invariant-loop-row l = l.text.items ≡ flat_map (row_line l.geometry l.roles l.image l.radix) (take l.row-index l.rows)
