-- The unused bytes of i-nodes after the steps of a call.
use Rattle.std.proofs.Common.{◌∙◌, ℕ, ◌+◌, List, arith}
use Rattle.pdp_words.specs.Words.{SameOutside}
use Rattle.vol_layout.specs.Edition.{constants}
use Rattle.vol_layout.specs.Inode.{inode_place}
use Rattle.vol_layout.specs.Super.{cache_head, time_place}
use Rattle.vol_layout.specs.declared.geometry.Geometry.{Geometry}
use Rattle.vol_layout.proofs.EditionLaws.{super_order}
use Rattle.vol_layout.proofs.InodeLaws.{place_from}
use Rattle.vol_change.specs.Alone.{ChangesInode}
use Rattle.vol_change.specs.Unused.{KeepsUnused, IsCleared}
use Rattle.vol_change.proofs.UnusedBytes.{low_unused, cleared_still, cache_low, time_low}

-- a write of the volume's time doesn't change the unused bytes
pub time_unused : (geometry : Geometry) (old new : List ℕ) (j : ℕ)
    → SameOutside old new (time_place geometry.edition) (time_place geometry.edition + 4) → KeepsUnused geometry old new j
time_unused geometry old new j same =
    low_unused geometry old new j (time_place geometry.edition) (time_place geometry.edition + 4) same (time_low geometry.edition)

-- a write of the cache doesn't change the unused bytes
pub cache_unused : (geometry : Geometry) (old new : List ℕ) (j : ℕ)
    → SameOutside old new (cache_head geometry.edition) (cache_head geometry.edition + 202) → KeepsUnused geometry old new j
cache_unused geometry old new j same =
    low_unused geometry old new j (cache_head geometry.edition) (cache_head geometry.edition + 202) same (cache_low geometry.edition)

-- after a write of the volume's time, a cleared i-node is still cleared
pub time_cleared : (geometry : Geometry) (old new : List ℕ) (i : ℕ)
    → SameOutside old new (time_place geometry.edition) (time_place geometry.edition + 4) → IsCleared geometry old i → IsCleared geometry new i
time_cleared geometry old new i same cleared =
    cleared_still geometry old new i (time_place geometry.edition) (time_place geometry.edition + 4) same (time_low geometry.edition) cleared

-- a write of an i-node and a write of the time change no other bytes
pub inode_alone : (geometry : Geometry) (old mid new : List ℕ) (i : ℕ)
    → SameOutside old mid (inode_place geometry.edition i) (inode_place geometry.edition i + (constants geometry.edition).inode_bytes)
    → SameOutside mid new (time_place geometry.edition) (time_place geometry.edition + 4) → ChangesInode geometry old new i
inode_alone geometry old mid new i node time =
    let order = (super_order geometry.edition).3 in
    let from = place_from geometry.edition i in
    record {
      before = λ k h. time.below k h ∙ node.below k (omega (arith, order, from));
      between = λ k low high. time.above k low ∙ node.below k high;
      behind = λ k h. time.above k (omega (arith, order, from)) ∙ node.above k h;
    }
