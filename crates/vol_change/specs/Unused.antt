-- The unused bytes of i-nodes.
use Rattle.std.specs.Prelude.{◌≡◌, ◌≢◌, ℕ, ◌+◌, ◌<◌, ◌≤◌, List, slice_index}
use Rattle.vol_layout.specs.Edition.{constants}
use Rattle.vol_layout.specs.Inode.{inode_place}
use Rattle.vol_layout.specs.declared.edition.Edition.TheVariants.{V7}
use Rattle.vol_layout.specs.declared.geometry.Geometry.{Geometry}
use Rattle.vol_layout.specs.declared.mode.Kind.TheVariants as kinds
use Rattle.vol_file.specs.Rules.{kind_at}

-- the unused bytes of i-node j are unchanged: byte 51, which the seventh edition doesn't use, and all bytes of i-node j if it is free (ino.h; this
-- project)
pub record KeepsUnused (geometry : Geometry) (old new : List ℕ) (j : ℕ) : Type 0 where
  pub stays : geometry.edition ≡ V7 → slice_index new (inode_place V7 j + 51) ≡ slice_index old (inode_place V7 j + 51)
  pub free : kind_at geometry old j ≡ kinds.Free → (k : ℕ) → k < (constants geometry.edition).inode_bytes
      → slice_index new (inode_place geometry.edition j + k) ≡ slice_index old (inode_place geometry.edition j + k)

-- the unused bytes of every i-node are unchanged (this project)
abbrev pub KeepsAllUnused : Geometry → List ℕ → List ℕ → Type 0
KeepsAllUnused geometry old new = (j : ℕ) → 1 ≤ j → j ≤ geometry.last_inode → KeepsUnused geometry old new j

-- the unused bytes of every i-node except i are unchanged (this project)
abbrev pub KeepsUnusedBut : Geometry → List ℕ → List ℕ → ℕ → Type 0
KeepsUnusedBut geometry old new i = (j : ℕ) → 1 ≤ j → j ≤ geometry.last_inode → j ≢ i → KeepsUnused geometry old new j

-- all bytes of i-node i are zero (Lions on iput, ifree; this project)
pub record IsCleared (geometry : Geometry) (image : List ℕ) (i : ℕ) : Type 0 where
  pub zero : (k : ℕ) → k < (constants geometry.edition).inode_bytes → slice_index image (inode_place geometry.edition i + k) ≡ 0
