use Rattle.std.proofs.Common.{◌≡◌}
use Rattle.vol_identify.specs.Foreign.{are_entries}
use Rattle.vol_identify.proofs.foreign.are_entries.Given as goal

-- the entries so far
abbrev pub invariant-loop-k : goal.invariant-loop-k
invariant-loop-k l = l.all ≡ are_entries l.image l.at l.k
