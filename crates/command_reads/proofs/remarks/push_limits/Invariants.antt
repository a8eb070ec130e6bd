use Rattle.std.proofs.Common.{◌≡◌, ◌++◌, [], if◌then◌else◌, take}
use Rattle.std.specs.List.{flat_map}
use Rattle.vol_archive.specs.declared.met_entries.MetEntry.{MetEntry}
use Rattle.vol_rescue.specs.Lines.{role_line}
use Rattle.command_reads.specs.Remarks.{is_limited}
use Rattle.command_reads.proofs.remarks.push_limits.Given as goal

-- Invariant: the lines of the entries so far at which the walk stopped have been added.
abbrev pub invariant-founds : goal.invariant-founds
invariant-founds l =
    l.lines.items
    ≡ l.initial.lines.items
    ++ flat_map (λ (found : MetEntry). if is_limited found.role then role_line found.path found.role else []) (take l.found-index l.founds)
