use Rattle.std.specs.Prelude.{slice_index}
use Rattle.vol_compare.specs.Bodies.{AgreeUpTo}
use Rattle.vol_compare.proofs.bodies.unequal_byte.Given as goal

-- Invariant: no byte before `r` differs.
abbrev pub invariant-loop-r : goal.invariant-loop-r
invariant-loop-r l = AgreeUpTo (slice_index l.old) (slice_index l.new) l.r
