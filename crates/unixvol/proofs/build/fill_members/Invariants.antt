use Rattle.std.proofs.Common.{◌≡◌, All, map, take}
use Rattle.pack_lists.specs.declared.archive.FilledMember.{FilledMember}
use Rattle.unixvol.specs.Builds.{IsContentRead}
use Rattle.unixvol.specs.Runs.{GavePut}
use Rattle.unixvol.proofs.build.fill_members.Given as goal

-- Invariant: the filled members are those of the list so far, and the bytes of each were read from a file.
abbrev pub invariant-members : goal.invariant-members
invariant-members g l =
    (map (λ (member : FilledMember). member.listed.now) l.filled.items ≡ take l.listed-index l.members)
    × All (λ (member : FilledMember). IsContentRead (GavePut l.edition g.R.File.Read.remaining) member.listed.now member.content.items) l.filled.items
