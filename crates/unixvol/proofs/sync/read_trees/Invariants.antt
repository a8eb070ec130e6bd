use Rattle.std.proofs.Common.{[], map, take}
use Rattle.std.specs.List.{FoldsTo}
use Rattle.unixvol.specs.Runs.{GavePut}
use Rattle.unixvol.specs.Syncs.{AddsTree}
use Rattle.unixvol.proofs.Identified.{path_of}
use Rattle.unixvol.proofs.sync.read_trees.Given as goal

-- Invariant: these are the members of the folders so far.
abbrev pub invariant-folders : goal.invariant-folders
invariant-folders g l =
    FoldsTo (AddsTree (GavePut l.edition g.R.File.Read.remaining) g.R.ImageFiles.listed l.keep) [] (take l.folder-index (map path_of l.folders)) l.members.items
