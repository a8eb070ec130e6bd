use Rattle.std.proofs.Common.{◌≡◌, ℕ, ◌-◌, List}
use Rattle.vol_free.specs.Walk.{HasMet}
use Rattle.vol_inspect.specs.Owners.{holder, listed_in}
use Rattle.vol_inspect.proofs.owners.listed.Given as goal

-- Invariant: if the walk passed the block, its position is known.
abbrev pub invariant-walk : goal.invariant-walk
invariant-walk l = (met : List ℕ) × HasMet l.geometry l.image l.marks l.walk met
    × (l.listing.found ≡ listed_in l.geometry l.image l.b met) × (l.listing.link ≡ holder l.geometry l.image met)

-- each step of the walk passes one more block
abbrev pub decreases-walk : goal.decreases-walk
decreases-walk l = l.geometry.zone_end - l.walk.met
