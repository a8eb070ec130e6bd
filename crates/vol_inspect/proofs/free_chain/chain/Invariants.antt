use Rattle.std.proofs.Common.{◌≡◌, ℕ, ◌-◌, List, map}
use Rattle.vol_free.specs.Walk.{HasMet}
use Rattle.vol_inspect.specs.FreeChain.{links_met, shown_link}
use Rattle.vol_inspect.proofs.free_chain.chain.Given as goal

-- Invariant: the links of the blocks that the walk passed have been added.
abbrev pub invariant-walk : goal.invariant-walk
invariant-walk l = (met : List ℕ) × HasMet l.geometry l.image l.marks.items l.walk met
    × (map shown_link l.links.items ≡ links_met l.geometry l.image met)

-- each step of the walk passes one more block
abbrev pub decreases-walk : goal.decreases-walk
decreases-walk l = l.geometry.zone_end - l.walk.met
