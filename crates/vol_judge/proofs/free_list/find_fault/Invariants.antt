use Rattle.std.proofs.Common.{ℕ, ◌-◌, List, reverse}
use Rattle.vol_free.specs.Walk.{HasMet}
use Rattle.vol_judge.proofs.NamedFree.{FindsMarked}
use Rattle.vol_judge.proofs.free_list.find_fault.Given as goal

-- Invariant: the free blocks met so far are marked, and `first` is the first of them that is marked as used.
abbrev pub invariant-walk : goal.invariant-walk
invariant-walk l = (met : List ℕ) × HasMet l.geometry l.image l.free l.walk met × FindsMarked l.named (reverse met) l.first

-- Each step of the walk meets one more block.
abbrev pub decreases-walk : goal.decreases-walk
decreases-walk l = l.geometry.zone_end - l.walk.met
