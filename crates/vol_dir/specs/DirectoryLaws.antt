-- Laws of the map of a directory, and of the test for positions in a block map.
use Rattle.std.specs.Prelude.{◌≡◌, ℕ, ◌↔◌, T, true, List, Option, None, get_or}
use Rattle.std.specs.Cmp.Lexicographic.{slice_cmp}
use Rattle.std.specs.FinMap.Entries.{is_sorted}
use Rattle.std.specs.Ordering.{nat_cmp}
use Rattle.std.specs.Option.{option_map}
use Rattle.vol_layout.specs.BlockMaps.{IsPlace}
use Rattle.vol_layout.specs.declared.block_map.BlockMap.{BlockMap}
use Rattle.vol_dir.specs.Names.{get, names_of}
use Rattle.vol_dir.specs.Search.{slot_named}
use Rattle.vol_dir.specs.Tree.{is_place}

-- a name has the i-number of the first slot with that name, or none if no slot has it (Lions on namei)
abbrev pub FindsFirstSlot : Type 0
FindsFirstSlot = (slots : List (Option (List ℕ × ℕ))) (name : List ℕ)
    → get (names_of slots) name ≡ option_map (λ (entry : List ℕ × ℕ). entry.1) (get_or slots (slot_named name slots) None)

-- the names of a map are in strictly ascending order of their bytes (this project)
abbrev pub AscendsByName : Type 0
AscendsByName = (slots : List (Option (List ℕ × ℕ))) → T (is_sorted (slice_cmp nat_cmp) (names_of slots))

-- the test `is_place` accepts exactly the positions in the block map (this project)
abbrev pub TestsPlaces : Type 0
TestsPlaces = (form : BlockMap) (p : List ℕ) → (is_place form p ≡ true) ↔ IsPlace form p
