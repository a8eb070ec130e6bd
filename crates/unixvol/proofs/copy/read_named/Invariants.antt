use Rattle.std.proofs.Common.{◌≡◌, All, map, take}
use Rattle.command_changes.specs.declared.put.NewFile.{NewFile}
use Rattle.command_copies.specs.Trees.{name_of}
use Rattle.unixvol.specs.Runs.{GavePut, IsGivenFile}
use Rattle.unixvol.proofs.copy.read_named.Given as goal

-- Invariant: the bytes of the new files so far were read from files, and their names are those of the paths so far.
abbrev pub invariant-files : goal.invariant-files
invariant-files g l =
    All (λ (file : NewFile). IsGivenFile (GavePut l.edition g.R.File.Read.remaining) l.keep file.content) l.files.items
    × (map (λ (file : NewFile). file.name.now) l.files.items ≡ map (λ path. name_of path.now) (take l.path-index l.paths))
