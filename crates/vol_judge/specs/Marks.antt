-- The blocks that files use: rules 5 and 7.
use Rattle.std.specs.Prelude.{◌≡◌, ◌≢◌, ℕ, zero, suc, ◌+◌, ◌<◌, ◌==◌, ◌↔◌, ◌⊎◌, Bool, true, false, if◌then◌else◌, List, [], ◌∷◌, slice_index, slice_index_or, slice_set, Option, None, Some}
use Rattle.std.specs.List.{flat_map, range_with_len}
use Rattle.vol_layout.specs.Edition.{constants}
use Rattle.vol_layout.specs.Geometry.{in_zone}
use Rattle.vol_layout.specs.BlockPointers.{IsPlaceOf, named, pointer_in, NamesBlock}
use Rattle.vol_free.specs.Stack.{IsIn}
use Rattle.vol_layout.specs.declared.geometry.Geometry.{Geometry}

-- address b and all addresses in the d levels of indirect blocks below it are 0 or the number of a data block (icheck)
unfoldable pub IsInside : Geometry → List ℕ → ℕ → ℕ → Type 0
IsInside geometry image zero b = b ≢ 0 → in_zone geometry b ≡ true
IsInside geometry image (suc d) b =
    (b ≢ 0 → in_zone geometry b ≡ true)
    × ((j : ℕ) → j < (constants geometry.edition).pointers → IsInside geometry image d (pointer_in geometry image b j))

-- the mark of a data block is a number of levels below it in which all addresses are known to be 0 or in the data zone (this project)
abbrev pub KnowsInside : Geometry → List ℕ → List ℕ → Type 0
KnowsInside geometry image known = (b : ℕ) → in_zone geometry b ≡ true → IsInside geometry image (slice_index known b) b

-- rule 5 for i-node i: each address in its block map is 0 or the number of a data block (icheck)
abbrev pub IsFileZoned : Geometry → List ℕ → ℕ → Type 0
IsFileZoned geometry image i = (p : List ℕ) → IsPlaceOf geometry image i p → named geometry image i p ≢ 0
    → in_zone geometry (named geometry image i p) ≡ true

-- address b and the addresses in the d levels below it, in the order of the block map, without zeros (icheck)
unfoldable pub blocks_from : Geometry → List ℕ → ℕ → ℕ → List ℕ
blocks_from geometry image zero b = if b == 0 then [] else b ∷ []
blocks_from geometry image (suc d) b = if b == 0 then [] else
    b ∷ flat_map (λ j. blocks_from geometry image d (pointer_in geometry image b j)) (range_with_len 0 (constants geometry.edition).pointers)

-- the marks after the blocks of a list are marked one by one; None if one of them is already marked (icheck)
unfoldable pub marked : List ℕ → List ℕ → Option (List ℕ)
marked marks [] = Some marks
marked marks (b ∷ blocks) = if slice_index marks b == 0 then marked (slice_set marks b 1) blocks else None

-- the blocks with a mark that isn't 0 are those that files use (icheck)
abbrev pub MarksNamed : Geometry → List ℕ → List ℕ → Type 0
MarksNamed geometry image marks = (b : ℕ) → slice_index marks b ≢ 0 ↔ ((i : ℕ) × (p : List ℕ) × NamesBlock geometry image i p b)

-- the flagged blocks are those that files use (icheck)
abbrev pub AreNamed : Geometry → List ℕ → List Bool → Type 0
AreNamed geometry image flags = (b : ℕ) → slice_index_or flags b false ≡ true ↔ ((i : ℕ) × (p : List ℕ) × NamesBlock geometry image i p b)

-- the data blocks with a mark that isn't 0 are those that files use (icheck)
abbrev pub MarksZone : Geometry → List ℕ → List ℕ → Type 0
MarksZone geometry image marks = (b : ℕ) → in_zone geometry b ≡ true
    → slice_index marks b ≢ 0 ↔ ((i : ℕ) × (p : List ℕ) × NamesBlock geometry image i p b)

-- the data blocks in a list become marked, no other block does, and marked blocks stay marked (icheck)
pub record ExtendsMarks (geometry : Geometry) (blocks old new : List ℕ) : Type 0 where
  pub all : (x : ℕ) → IsIn x blocks → in_zone geometry x ≡ true → slice_index new x ≢ 0
  pub only : (x : ℕ) → slice_index new x ≢ 0 → (slice_index old x ≢ 0) ⊎ IsIn x blocks
  pub kept : (x : ℕ) → slice_index old x ≢ 0 → slice_index new x ≢ 0

-- if the mark of a block is d + 1, all data blocks in the d levels below it are marked (this project)
abbrev pub KnowsMarked : Geometry → List ℕ → List ℕ → Type 0
KnowsMarked geometry image marks = (b d : ℕ) → slice_index marks b ≡ d + 1 → (x : ℕ) → IsIn x (blocks_from geometry image d b)
    → in_zone geometry x ≡ true → slice_index marks x ≢ 0
