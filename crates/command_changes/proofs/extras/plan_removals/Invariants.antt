use Rattle.std.proofs.Common.{◌≡◌, take}
use Rattle.std.specs.List.{flat_map}
use Rattle.command_changes.specs.Extras.{entry_calls, entry_line}
use Rattle.command_changes.proofs.extras.plan_removals.Given as goal

-- Invariant: the calls and the lines so far are those for the entries so far.
abbrev pub invariant-entries : goal.invariant-entries
invariant-entries l = record {
  calls : l.calls.items ≡ flat_map (entry_calls l.syncing l.members) (take l.found-index l.founds);
  lines : l.lines.items ≡ flat_map (entry_line l.syncing l.members) (take l.found-index l.founds);
}
