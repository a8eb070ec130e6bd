use Rattle.std.proofs.Common.{ℕ, ◌-◌, List, Bool}
use Rattle.vol_file.specs.Steps.{WantsWays, NamesWays}
use Rattle.vol_file.proofs.take_blocks.name_ways.Given as goal

-- Invariant: all positions on the paths of the logical blocks before `b` point to blocks.
abbrev pub invariant-loop-b : goal.invariant-loop-b
invariant-loop-b l = record {
  named : (wanted : List ℕ → Bool) (blocks : List ℕ) → WantsWays l.geometry l.initial.image l.i wanted l.from (l.to - l.from) blocks
      → NamesWays l.geometry l.initial.image l.image l.i wanted l.from (l.b - l.from) blocks;
}
