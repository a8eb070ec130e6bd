-- Invariant: `spare` is reduced by the bytes of the files so far.
use Rattle.std.proofs.Common.{◌≡◌, ◌-◌, drop}
use Rattle.vol_mounted.specs.Orphans.{held_by}
use Rattle.vol_mounted.proofs.orphan.Orphans.spare.Given as goal

abbrev pub invariant-files : goal.invariant-files
invariant-files l = l.most - held_by l.files ≡ l.spare - held_by (drop l.file-index l.files)
