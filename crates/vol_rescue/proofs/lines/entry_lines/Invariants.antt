use Rattle.std.proofs.Common.{take}
use Rattle.vol_rescue.specs.Lines.{AreEntryLines}
use Rattle.vol_rescue.proofs.lines.entry_lines.Given as goal

-- Invariant: the lines of the entries so far have been added.
abbrev pub invariant-founds : goal.invariant-founds
invariant-founds l = AreEntryLines l.geometry l.image l.lost (take l.found-index l.founds) l.lines.items
