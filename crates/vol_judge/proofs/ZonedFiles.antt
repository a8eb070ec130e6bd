-- Rule 5 in terms of the addresses of each file.
use Rattle.std.proofs.Common.{◌≡◌, ℕ, zero, suc, ◌<◌, ◌≤◌, List, [], ◌∷◌, true, false, if◌then◌else◌, refl, arith}
use Rattle.vol_layout.specs.Edition.{constants}
use Rattle.vol_layout.specs.Inode.{inode_place, address_at, kind_of}
use Rattle.vol_layout.specs.BlockMaps.{has_places, file_form, form_of, first_count, pointer_count, levels, levels_below, IsPlace}
use Rattle.vol_layout.specs.BlockPointers.{mode_of, form_at, IsFile, named}
use Rattle.vol_layout.specs.declared.edition.Edition.{Edition}
use Rattle.vol_layout.specs.declared.geometry.Geometry.{Geometry}
use Rattle.vol_layout.specs.declared.block_map.BlockMap.TheVariants.{Bare}
use Rattle.vol_file.proofs.Nodes.{pointers_file}
use Rattle.vol_judge.specs.Marks.{IsInside, IsFileZoned}

-- a mode whose block map has an address belongs to a kind with a block map
kind_counted : (edition : Edition) (mode k : ℕ) → k < first_count (form_of edition mode) → has_places (kind_of edition mode) ≡ true
kind_counted edition mode k h =
    elim (has_places (kind_of edition mode)) as (λ t. k < first_count (if t then file_form edition mode else Bare) → t ≡ true)
    [ true ↦ λ h. refl | false ↦ λ h. absurd (omega arith) ] h

-- an i-node whose block map has an address belongs to a file
pub file_counted : (geometry : Geometry) (image : List ℕ) (i k : ℕ) → 1 ≤ i → i ≤ geometry.last_inode
    → k < first_count (form_at geometry image i) → IsFile geometry image i
file_counted geometry image i k first last h =
    record { first = first; last = last; kind = kind_counted geometry.edition (mode_of geometry image i) k h }

-- if a file keeps rule 5, all addresses below a position of its block map are in the data zone
pub place_inside : (geometry : Geometry) (image : List ℕ) (i : ℕ) → IsFile geometry image i → IsFileZoned geometry image i → (d a : ℕ) (p : List ℕ)
    → IsPlace (form_at geometry image i) (a ∷ p) → d ≤ levels_below (form_at geometry image i) (a ∷ p)
    → IsInside geometry image d (named geometry image i (a ∷ p))
unfolding IsInside
place_inside geometry image i file zoned zero a p place deep = λ some. zoned (a ∷ p) (record { file = file; place = place }) some
place_inside geometry image i file zoned (suc d) a p place deep = (
  λ some. zoned (a ∷ p) (record { file = file; place = place }) some,
  λ j h.
      let many : pointer_count (form_at geometry image i) ≡ (constants geometry.edition).pointers = pointers_file geometry image i file in
      place_inside geometry image i file zoned d j (a ∷ p) (omega (arith, h, many), omega (arith, deep), place) (omega (arith, deep)),
)

-- if a file keeps rule 5, all addresses below each of its i-node's addresses are in the data zone
pub address_inside : (geometry : Geometry) (image : List ℕ) (i k : ℕ) → 1 ≤ i → i ≤ geometry.last_inode
    → k < first_count (form_at geometry image i) → IsFileZoned geometry image i
    → IsInside geometry image (levels (form_at geometry image i) k) (address_at geometry.edition image (inode_place geometry.edition i) k)
address_inside geometry image i k first last h zoned =
    place_inside geometry image i (file_counted geometry image i k first last h) zoned (levels (form_at geometry image i) k) k [] h (omega arith)
