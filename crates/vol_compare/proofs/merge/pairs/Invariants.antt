use Rattle.std.proofs.Common.{◌≡◌, ◌≤◌, ◌+◌, ◌-◌, ◌++◌, Bool, length, map}
use Rattle.vol_compare.specs.Merge.{all_of, merged, pairing_of, rest_of}
use Rattle.vol_compare.proofs.merge.pairs.Given as goal

-- Invariant: what was merged so far, followed by what is left of both trees, is all that they have.
abbrev pub invariant-loop-i : goal.invariant-loop-i
invariant-loop-i l = record {
  old_within : l.i ≤ length l.old.founds.items;
  new_within : l.j ≤ length l.new.founds.items;
  all : (times : Bool) → map (pairing_of times l.old l.new) l.pairs.items ++ merged (rest_of times l.old l.i) (rest_of times l.new l.j)
      ≡ merged (all_of times l.old) (all_of times l.new);
}

abbrev pub decreases-loop-i : goal.decreases-loop-i
decreases-loop-i l = length l.old.founds.items + length l.new.founds.items - (l.i + l.j)
