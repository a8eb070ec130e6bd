-- The image of a volume with more blocks, before it is repaired.
use Rattle.std.specs.Prelude.{◌≡◌, ◌⊎◌, ℕ, ◌+◌, ◌*◌, ◌<◌, ◌≤◌, true, List, length, slice_index}
use Rattle.std.specs.Result.{is_ok}
use Rattle.vol_layout.specs.Edition.{constants}
use Rattle.vol_layout.specs.Geometry.{block_count, geometry_read}
use Rattle.vol_layout.specs.declared.edition.Edition.{Edition}

-- the sizes of the old image's volume are known; the new image has exactly `blocks` blocks, more than that volume and within the edition's limit, and its
-- super-block says so; all other bytes of the old volume are the same, and those after it are zeros (this project)
pub record IsLonger (edition : Edition) (blocks : ℕ) (old new : List ℕ) : Type 0 where
  pub sized : is_ok (geometry_read edition old) ≡ true
  pub more : block_count edition old < blocks
  pub limit : blocks ≤ (constants edition).block_limit
  pub len : length new ≡ 512 * blocks
  pub count : block_count edition new ≡ blocks
  pub before : (k : ℕ) → k < 514 → slice_index new k ≡ slice_index old k
  pub after : (k : ℕ) → 514 + (constants edition).number_bytes ≤ k → k < 512 * block_count edition old → slice_index new k ≡ slice_index old k
  pub zeros : (k : ℕ) → 512 * block_count edition old ≤ k → k < 512 * blocks → slice_index new k ≡ 0

-- the image is the same if its sizes aren't known, since it breaks rule 1 or 2, or if its volume has at least `blocks` blocks; otherwise it is longer
-- (this project)
abbrev pub IsLengthened : Edition → ℕ → List ℕ → List ℕ → Type 0
IsLengthened edition blocks old new =
    ((is_ok (geometry_read edition old) ≡ true → blocks ≤ block_count edition old) × (new ≡ old)) ⊎ IsLonger edition blocks old new
