use Rattle.std.proofs.Common.{take}
use Rattle.pack_files.specs.PackFiles.{AreJudged}
use Rattle.pack_files.proofs.judged_packs.judged_parts.Given as goal

-- Invariant: the parts so far are judged.
abbrev pub invariant-parts : goal.invariant-parts
invariant-parts g l = AreJudged g.R.File.Read.remaining (take l.part-index l.parts) l.judged.items
