use Rattle.std.proofs.Common.{take}
use Rattle.unixvol.specs.Copies.{AreSaved}
use Rattle.host_files.specs.Save.{IsTaken}
use Rattle.unixvol.proofs.copy.save_files.Given as goal

-- Invariant: the files so far are saved.
abbrev pub invariant-files : goal.invariant-files
invariant-files g l = AreSaved (IsTaken g.R.File.Write.contents) (take l.file-index l.files)
