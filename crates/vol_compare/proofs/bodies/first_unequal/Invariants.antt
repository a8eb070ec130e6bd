use Rattle.std.proofs.Common.{ℕ, ◌≤◌, ◌*◌, ◌<◌, ◌≡◌, ◌-◌}
use Rattle.vol_compare.specs.Bodies.{IsHoleIn, byte_in}
use Rattle.vol_compare.proofs.bodies.first_unequal.Given as goal

-- Invariant: no byte before block `b` differs, and in both files all blocks from `b` on and before the known ones are holes.
abbrev pub invariant-loop-b : goal.invariant-loop-b
invariant-loop-b l = record {
  within : l.b ≤ l.blocks;
  old_within : l.before ≤ l.blocks;
  new_within : l.after ≤ l.blocks;
  agree : (n : ℕ) → n < l.common → n < 512 * l.b → byte_in l.old n ≡ byte_in l.new n;
  old_hole : IsHoleIn l.old l.b l.before;
  new_hole : IsHoleIn l.new l.b l.after;
}

abbrev pub decreases-loop-b : goal.decreases-loop-b
decreases-loop-b l = l.blocks - l.b
