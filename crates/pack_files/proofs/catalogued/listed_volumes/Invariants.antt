use Rattle.std.proofs.Common.{take}
use Rattle.pack_files.specs.Catalogued.{AreListed}
use Rattle.pack_files.proofs.catalogued.listed_volumes.Given as goal

-- Invariant: this is listed of the parts so far.
abbrev pub invariant-parts : goal.invariant-parts
invariant-parts g l = AreListed g.R.File.Read.remaining (take l.part-index l.parts) l.listed.items
