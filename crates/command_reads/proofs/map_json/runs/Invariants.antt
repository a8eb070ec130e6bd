use Rattle.std.proofs.Common.{◌≡◌, ◌+◌, ◌++◌, drop}
use Rattle.command_reads.specs.MapJson.{runs, runs_from}
use Rattle.command_reads.proofs.map_json.runs.Given as goal

-- Invariant: the runs so far, followed by those of the blocks that are left, are all runs; the run ends before the next block.
abbrev pub invariant-loop-one : goal.invariant-loop-one
invariant-loop-one l = record {
  all : l.found.items ++ runs_from l.run (drop l.one-index l.uses) ≡ runs l.uses;
  next : l.run.block + l.run.count ≡ l.one-index;
}
