use Rattle.std.proofs.Common.{arith, subst}
use Rattle.std.proofs.lemmas.List.{take_all}
use Rattle.std.proofs.lemmas.List.Elements.{All-more}
use Rattle.command_reads.specs.declared.get.FileRead.{FileRead}
use Rattle.unixvol.specs.Copies.{AreSaved}
use Rattle.host_files.specs.Save.{IsTaken}
use Rattle.unixvol.proofs.copy.save_files.Goals as goal

pub files-preserved : goal.files-preserved
files-preserved g c =
    All-more (λ (file : FileRead). IsTaken g.R.File.Write.contents file.bytes.items) c.args.files.now c.files.file-index c.file-item.result (omega arith)
    c.files.invariant
    (subst (λ (file : FileRead). IsTaken g.R.File.Write.contents file.bytes.items) c.file-item.is c.in_ok-save_file_read.ensures.saved)

pub returns-clause-saved : goal.returns-clause-saved
returns-clause-saved g c =
    subst (AreSaved (IsTaken g.R.File.Write.contents)) (take_all c.files.file-index c.args.files.now (omega arith)) c.files.invariant
