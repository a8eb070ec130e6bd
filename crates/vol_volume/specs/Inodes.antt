-- The unused bytes of i-nodes, and how calls change them.
use Rattle.std.specs.Prelude.{◌≡◌, ℕ, ◌+◌, ◌≤◌, Bool, true, false, List, slice_index, is_none}
use Rattle.vol_layout.specs.Inode.{inode_place}
use Rattle.vol_dir.specs.Tree.{tree}
use Rattle.vol_change.specs.Unused.{IsCleared, KeepsUnused}
use Rattle.vol_layout.specs.declared.edition.Edition.TheVariants.{V7}
use Rattle.vol_layout.specs.declared.geometry.Geometry.{Geometry}

-- true if there is no node with this i-number (manual section 5, file system)
abbrev pub is_free : Geometry → List ℕ → ℕ → Bool
is_free geometry image i = is_none ((tree geometry image).nodes i)

-- an i-node that is freed becomes all zeros; byte 51, which the seventh edition doesn't use, is 0 in an i-node that was free and is now in use; in
-- every other i-node the unused bytes, which are all bytes if it is free, are unchanged (Lions on maknode, iput, ifree; ino.h; this project)
pub record KeepsInodes (geometry : Geometry) (old new : List ℕ) : Type 0 where
  pub cleared : (i : ℕ) → is_free geometry old i ≡ false → is_free geometry new i ≡ true → IsCleared geometry new i
  pub made : (i : ℕ) → is_free geometry old i ≡ true → is_free geometry new i ≡ false
      → geometry.edition ≡ V7 → slice_index new (inode_place V7 i + 51) ≡ 0
  pub unused : (i : ℕ) → 1 ≤ i → i ≤ geometry.last_inode → is_free geometry new i ≡ is_free geometry old i → KeepsUnused geometry old new i
