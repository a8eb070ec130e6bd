use Rattle.std.proofs.Common.{◌≡◌, ℕ, ◌-◌, ◌<◌, List, get_or}
use Rattle.vol_free.specs.Walk.{HasMet}
use Rattle.vol_inspect.specs.FreeListStatus.{listed_in}
use Rattle.vol_inspect.specs.declared.free_list.Listed.TheVariants.{Absent}
use Rattle.vol_inspect.proofs.free_list.list.Given as goal

-- Invariant: the blocks that the walk passed have their status.
abbrev pub invariant-walk : goal.invariant-walk
invariant-walk l = (met : List ℕ) × HasMet l.geometry l.image l.marks l.walk met
    × ((x : ℕ) → x < l.geometry.zone_end → get_or l.listed x Absent ≡ listed_in l.geometry l.image met x)

-- each step of the walk passes one more block
abbrev pub decreases-walk : goal.decreases-walk
decreases-walk l = l.geometry.zone_end - l.walk.met
