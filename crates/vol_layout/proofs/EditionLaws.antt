-- Lemmas on the constants of the editions.
use Rattle.std.proofs.Common.{◌≡◌, ◌+◌, ◌≤◌, arith}
use Rattle.vol_layout.specs.Edition.{constants}
use Rattle.vol_layout.specs.Super.{free_head, cache_head, time_place}
use Rattle.vol_layout.specs.declared.edition.Edition.{Edition}
use Rattle.vol_layout.specs.declared.edition.Edition.TheVariants.{V6, V7}

-- an i-node has at least the two bytes of its mode
pub mode_room : (edition : Edition) → 2 ≤ (constants edition).inode_bytes
mode_room V6 = omega arith
mode_room V7 = omega arith

-- the greatest link count is at least two
pub few_links : (edition : Edition) → 2 ≤ (constants edition).link_limit
few_links V6 = omega arith
few_links V7 = omega arith

-- the greatest size of a file is at least the size of two slots
pub dots_fit : (edition : Edition) → 32 ≤ (constants edition).greatest
dots_fit V6 = omega arith
dots_fit V7 = omega arith

-- the i-number cache follows the free list, and the time follows the cache, within the super-block
pub super_order : (edition : Edition) → (free_head edition + 202 ≡ cache_head edition) × (free_head edition + 404 ≤ time_place edition)
    × (720 ≤ time_place edition) × (time_place edition + 4 ≤ 1024)
super_order V6 = (omega arith, omega arith, omega arith, omega arith)
super_order V7 = (omega arith, omega arith, omega arith, omega arith)
