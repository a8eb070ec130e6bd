use Rattle.std.proofs.Common.{ℕ, ◌+◌, ◌-◌, ◌≤◌, List, length}
use Rattle.vol_layout.specs.Edition.{constants}
use Rattle.vol_free.specs.Stack.{IsFree}
use Rattle.vol_free.proofs.ChainWalks.{IsLeft}
use Rattle.vol_free.proofs.free_list.free_count.Given as goal

-- Invariant: the blocks not yet counted are the stack whose count and array begin at byte `head`.
abbrev pub invariant-loop-count : goal.invariant-loop-count
invariant-loop-count l = record {
  few : l.count ≤ (constants l.geometry.edition).free_slots;
  room : l.head + 202 ≤ length l.image;
  left : (blocks : List ℕ) → IsFree l.geometry l.image blocks → IsLeft l.geometry l.image l.head l.count l.total blocks;
}

-- The number of blocks of the volume minus the number of blocks counted decreases: each array counts at least one free block.
abbrev pub decreases-loop-count : goal.decreases-loop-count
decreases-loop-count l = l.geometry.zone_end - l.total
