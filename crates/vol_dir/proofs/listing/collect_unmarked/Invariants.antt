use Rattle.std.proofs.Common.{◌-◌}
use Rattle.vol_dir.proofs.ListedNames.{HasCollected}
use Rattle.vol_dir.proofs.listing.collect_unmarked.Given as goal

-- Invariant: the names in the slots before `from` have been collected.
abbrev pub invariant-loop-s : goal.invariant-loop-s
invariant-loop-s l = HasCollected l.geometry l.image l.dir l.from l.names.entries l.marks

abbrev pub decreases-loop-s : goal.decreases-loop-s
decreases-loop-s l = 4294967296 - l.from
