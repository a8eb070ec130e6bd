use Rattle.std.proofs.Common.{◌≡◌, map}
use Rattle.vol_rescue.specs.Damage.{marked}
use Rattle.vol_rescue.proofs.damage.marked.Given as goal

-- Invariant: the entries so far are kept or left out.
abbrev pub invariant-loop-found : goal.invariant-loop-found
invariant-loop-found l =
    l.kept.items ≡ map (marked l.geometry l.image l.lost l.damaged) l.yielded
