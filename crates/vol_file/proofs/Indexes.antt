-- The indexes on the path of a logical block are within their bounds.
use Rattle.std.proofs.Common.{◌≡◌, ℕ, zero, suc, ◌+◌, ◌*◌, ◌<◌, ◌≤◌, sym, subst, List, slice_index, refl, arith, Some}
use Rattle.vol_layout.specs.Edition.{constants}
use Rattle.vol_layout.specs.BlockMaps.{first_count, pointer_count, last_place, place_to, end_of}
use Rattle.vol_layout.specs.BlockPointers.{mode_of, form_at, pointer_in, named}
use Rattle.vol_layout.specs.declared.geometry.Geometry.{Geometry}
use Rattle.vol_layout.specs.declared.block_map.BlockMap.{BlockMap}
use Rattle.vol_layout.specs.declared.block_map.BlockMap.TheVariants.{Small, Large, Deep, Bare}
use Rattle.vol_layout.specs.declared.block_map.BlockPath.{BlockPath}
use Rattle.vol_layout.proofs.CopyLaws.{number_room}
use Rattle.vol_layout.proofs.FrameLaws.{pointers_of}
use Rattle.vol_layout.proofs.PlaceLaws.{way_place, entry_to}

-- an i-node has at most 13 addresses
first_few : (form : BlockMap) → first_count form ≤ 13
first_few Small = omega arith
first_few Large = omega arith
first_few Deep = omega arith
first_few Bare = omega arith

-- the address on a path is an address of the i-node
pub way_address : (form : BlockMap) (b : ℕ) (way : BlockPath) → Some (end_of way) ≡ last_place form b → way.address < 13
way_address form b way e =
    let place : way.address < first_count form = way_place form b way 0 e (omega arith) in
    omega (arith, place, first_few form)

-- each entry on a path is within its indirect block
pub way_entry : (geometry : Geometry) (image : List ℕ) (i : ℕ) (form : BlockMap) (b : ℕ) (way : BlockPath) (d : ℕ)
    → form ≡ form_at geometry image i → Some (end_of way) ≡ last_place form b → d < way.depth
    → (constants geometry.edition).number_bytes * (slice_index way.entries d + 1) ≤ 512
way_entry geometry image i form b way d same e h =
    let low : slice_index way.entries d < pointer_count form = entry_to form way.address way.entries d (way_place form b way (suc d) e (omega arith)) in
    let many = pointers_of geometry.edition (mode_of geometry image i) in
    let many : pointer_count form ≤ (constants geometry.edition).pointers =
    subst (λ f. pointer_count f ≤ (constants geometry.edition).pointers) (sym same) (pointers_of geometry.edition (mode_of geometry image i)) in
    let fit = number_room geometry.edition (slice_index way.entries d) (omega (arith, low, many)) in
    let more : (constants geometry.edition).number_bytes * (slice_index way.entries d + 1)
    ≡ (constants geometry.edition).number_bytes * slice_index way.entries d + (constants geometry.edition).number_bytes = grind arith in
    omega (arith, fit, more)

-- the block reached by one more entry of a path is the entry of the block reached so far
pub named_more : (geometry : Geometry) (image : List ℕ) (i k : ℕ) (entries : List ℕ) (d : ℕ)
    → named geometry image i (place_to k entries (d + 1)) ≡ pointer_in geometry image (named geometry image i (place_to k entries d)) (slice_index entries d)
named_more geometry image i k entries zero = refl
named_more geometry image i k entries (suc d) = let next : suc d + 1 ≡ suc (suc d) = omega arith in rw next refl

-- an entry of an indirect block is within the block
pub entry_room : (geometry : Geometry) (j : ℕ) → j < (constants geometry.edition).pointers
    → (constants geometry.edition).number_bytes * (j + 1) ≤ 512
entry_room geometry j h =
    let fit = number_room geometry.edition j h in
    let more : (constants geometry.edition).number_bytes * (j + 1)
    ≡ (constants geometry.edition).number_bytes * j + (constants geometry.edition).number_bytes = grind arith in
    omega (arith, fit, more)
