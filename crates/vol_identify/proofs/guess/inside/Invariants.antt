use Rattle.std.proofs.Common.{◌≡◌, ◌-◌}
use Rattle.vol_identify.specs.Guesses.{inside, inside_from}
use Rattle.vol_identify.proofs.guess.inside.Given as goal

-- the first volume from block k on is the first of all
abbrev pub invariant-loop-k : goal.invariant-loop-k
invariant-loop-k l = inside_from l.image (l.blocks - 2 - l.k) l.k ≡ inside l.image
