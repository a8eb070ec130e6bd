use Rattle.std.proofs.Common.{◌≡◌, ◌++◌}
use Rattle.std.specs.List.{flat_map, range_with_len}
use Rattle.vol_rescue.specs.Repaired.{entry_after}
use Rattle.vol_rescue.proofs.repaired.with_others.Given as goal

-- Invariant: the entries of the i-nodes up to i-number `before` have been added.
abbrev pub invariant-loop-before : goal.invariant-loop-before
invariant-loop-before l =
    l.all.items ≡ l.fn.founds.items ++ flat_map (entry_after l.geometry l.lost l.start l.fn.founds.items) (range_with_len 0 l.before)
