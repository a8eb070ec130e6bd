use Rattle.std.proofs.Common.{[], take}
use Rattle.std.specs.List.{FoldsTo}
use Rattle.unixvol.specs.Runs.{GavePut}
use Rattle.unixvol.specs.Syncs.{AddsMember}
use Rattle.unixvol.proofs.sync.read_members.Given as goal

-- Invariant: these are the members for what was found so far.
abbrev pub invariant-members : goal.invariant-members
invariant-members g l =
    FoldsTo (AddsMember (GavePut l.edition g.R.File.Read.remaining) l.keep l.folder l.prefix) [] (take l.one-index l.found) l.members.items
