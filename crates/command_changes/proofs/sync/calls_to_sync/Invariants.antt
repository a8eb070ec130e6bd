use Rattle.std.proofs.Common.{◌≡◌, ◌++◌, length}
use Rattle.std.specs.Prelude.{reverse}
use Rattle.std.specs.List.{flat_map}
use Rattle.vol_volume.specs.Volume.{reads_as}
use Rattle.command_changes.specs.Put.{each_onto}
use Rattle.command_changes.specs.Sync.{calls_onto, lines_of_sync, member_line, member_onto}
use Rattle.command_changes.proofs.sync.calls_to_sync.Given as goal

-- Invariant: the calls and the lines so far, followed by those for the remaining members, are all calls and all lines.
abbrev pub invariant-members : goal.invariant-members
invariant-members l =
    (each_onto (member_onto (reads_as l.volume.edition l.volume.image).tree l.syncing) l.calls.items (reverse l.left.items)
    ≡ calls_onto (reads_as l.volume.edition l.volume.image).tree l.syncing l.fn.begun.calls.items l.fn.members.items)
    × (l.lines.items ++ flat_map (member_line (reads_as l.volume.edition l.volume.image).tree l.syncing) (reverse l.left.items)
    ≡ l.fn.begun.lines.items ++ lines_of_sync (reads_as l.volume.edition l.volume.image).tree l.syncing l.fn.members.items)

abbrev pub decreases-members : goal.decreases-members
decreases-members l = length l.left.items
