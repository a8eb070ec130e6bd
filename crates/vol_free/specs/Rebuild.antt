-- Rebuilding the free list from the unused data blocks.
use Rattle.std.specs.Prelude.{◌≡◌, ℕ, ◌+◌, ◌-◌, ◌*◌, ◌<◌, ◌≤◌, Bool, true, false, not, List, length, slice_index, slice_index_or}
use Rattle.std.specs.List.{filter, range_with_len}
use Rattle.vol_layout.specs.Super.{free_head}
use Rattle.vol_layout.specs.declared.geometry.Geometry.{Geometry}

-- the blocks that have no mark, from block b to the last block of the volume, in ascending order (icheck)
unfoldable pub unused_from : Geometry → List Bool → ℕ → List ℕ
unused_from geometry used b = filter (λ k. not (slice_index_or used k false)) (range_with_len b (geometry.zone_end - b))

-- the data blocks that have no mark, in ascending order (icheck)
abbrev pub unused : Geometry → List Bool → List ℕ
unused geometry used = unused_from geometry used geometry.zone_start

-- nothing changes except the super-block's count and array and the data blocks that have no mark (a frame)
pub record KeepsUsed (geometry : Geometry) (used : List Bool) (old new : List ℕ) : Type 0 where
  pub len : length new ≡ length old
  pub below : (k : ℕ) → k < free_head geometry.edition → slice_index new k ≡ slice_index old k
  pub between : (k : ℕ) → free_head geometry.edition + 202 ≤ k → k < 512 * geometry.zone_start → slice_index new k ≡ slice_index old k
  pub marked : (b k : ℕ) → slice_index_or used b false ≡ true → geometry.zone_start ≤ b → 512 * b ≤ k → k < 512 * b + 512
      → slice_index new k ≡ slice_index old k
  pub above : (k : ℕ) → 512 * geometry.zone_end ≤ k → slice_index new k ≡ slice_index old k
