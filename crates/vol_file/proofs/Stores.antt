-- The effect of storing one number at a position in a file's block map.
use Rattle.std.specs.Prelude.{◌≡◌, ◌≢◌, ℕ, ◌+◌, ◌*◌, ◌<◌, ◌≤◌, true, List, slice_index}
use Rattle.vol_layout.specs.Geometry.{in_zone}
use Rattle.vol_layout.specs.BlockMaps.{levels_below}
use Rattle.vol_layout.specs.Laws.{IsFront}
use Rattle.vol_layout.specs.BlockPointers.{mode_of, form_at, IsPlaceOf, named}
use Rattle.vol_free.specs.Stack.{IsFree}
use Rattle.vol_file.specs.Rules.{size_of}
use Rattle.vol_layout.specs.declared.geometry.Geometry.{Geometry}
use Rattle.vol_file.specs.Changes.{StaysElsewhere}

-- number `v` was stored at position `q` in the block map of file `i`, the free blocks are `blocks`, and nothing else has changed
pub record Stores (geometry : Geometry) (old new : List ℕ) (i : ℕ) (q : List ℕ) (v : ℕ) (blocks : List ℕ) : Type 0 where
  pub alone : StaysElsewhere geometry old new i
  pub mode : mode_of geometry new i ≡ mode_of geometry old i
  pub size : size_of geometry new i ≡ size_of geometry old i
  pub here : named geometry new i q ≡ v
  pub others : (p : List ℕ) → IsPlaceOf geometry old i p → (IsFront q p → ⊥) → named geometry new i p ≡ named geometry old i p
  pub bytes : (k r : ℕ) → in_zone geometry k ≡ true
      → ((p : List ℕ) → IsPlaceOf geometry old i p → 1 ≤ levels_below (form_at geometry old i) p → named geometry old i p ≢ k)
      → r < 512 → slice_index new (512 * k + r) ≡ slice_index old (512 * k + r)
  pub free : IsFree geometry new blocks
