-- The rules of soundness about the tree of directories: 10 to 12.
use Rattle.std.specs.Prelude.{◌≡◌, ◌≢◌, ℕ, ◌≤◌, ◌==◌, Bool, false, List, Option}
use Rattle.std.specs.List.{count_by, sum_by, range_with_len}
use Rattle.std.specs.Option.{option_map_or}
use Rattle.vol_layout.specs.Edition.{constants}
use Rattle.vol_layout.specs.Inode.{inode_of}
use Rattle.vol_file.specs.Rules.{kind_at}
use Rattle.vol_dir.specs.Entries.{slots, IsDirectory, HasEntry}
use Rattle.vol_dir.specs.Names.{dot, dot_dot, is_dots}
use Rattle.vol_layout.specs.declared.geometry.Geometry.{Geometry}
use Rattle.vol_layout.specs.declared.mode.Kind.{Kind}
use Rattle.vol_layout.specs.declared.mode.Kind.TheVariants as kinds

-- the root's i-number (manual section 5, file system)
abbrev pub root_of : Geometry → ℕ
root_of geometry = (constants geometry.edition).root

-- slot s of directory d has an entry for i-number i, with a name other than `.` and `..` (dcheck, ncheck)
abbrev pub Enters : Geometry → List ℕ → ℕ → ℕ → ℕ → Type 0
Enters geometry image d s i = (name : List ℕ) × HasEntry geometry image d s name i × (is_dots name ≡ false)

-- i-number i can be reached from the root by entries other than `.` and `..` (ncheck)
pub data IsReached (geometry : Geometry) (image : List ℕ) : ℕ → Type 0 where
  at_root : IsReached geometry image (root_of geometry)
  below : (d s i : ℕ) → IsReached geometry image d → Enters geometry image d s i → IsReached geometry image i

-- true if a slot has an entry for i-number i (dcheck)
abbrev pub is_for : ℕ → Option (List ℕ × ℕ) → Bool
is_for i slot = option_map_or (λ (entry : List ℕ × ℕ). entry.1 == i) slot false

-- the number of slots of i-number d with an entry for i-number i; 0 unless the given kind is directory (dcheck)
abbrev pub count_in : Geometry → List ℕ → ℕ → ℕ → Kind → ℕ
count_in geometry image i d kinds.Directory = count_by (is_for i) (slots geometry image d)
count_in geometry image i d kinds.Free = 0
count_in geometry image i d kinds.Regular = 0
count_in geometry image i d kinds.Special = 0
count_in geometry image i d kinds.Odd = 0

-- the number of entries for i-number i, with any name (dcheck)
unfoldable pub entry_count : Geometry → List ℕ → ℕ → ℕ
entry_count geometry image i =
    sum_by (λ d. count_in geometry image i d (kind_at geometry image d)) (range_with_len 1 geometry.last_inode)

-- rule 10: each directory has an entry `.` for itself and an entry `..`; in the root, `..` is for the root, and in any other directory d it is for a
-- directory that holds an entry for d, other than `.` and `..` (manual section 5, directories; the rule is this project's)
pub record HasDots (geometry : Geometry) (image : List ℕ) : Type 0 where
  pub itself : (d : ℕ) → IsDirectory geometry image d → (s : ℕ) × HasEntry geometry image d s dot d
  pub root : IsDirectory geometry image (root_of geometry) → (s : ℕ) × HasEntry geometry image (root_of geometry) s dot_dot (root_of geometry)
  pub parent : (d : ℕ) → IsDirectory geometry image d → d ≢ root_of geometry
      → (s : ℕ) × (e : ℕ) × (t : ℕ) × HasEntry geometry image d s dot_dot e × Enters geometry image e t d

-- rule 11: for each directory except the root there is exactly one entry other than `.` and `..`, and it can be reached from the root by such
-- entries; for the root there is none (ncheck; the rule is this project's)
pub record IsTree (geometry : Geometry) (image : List ℕ) : Type 0 where
  pub reached : (d : ℕ) → IsDirectory geometry image d → IsReached geometry image d
  pub one : (d e s f t : ℕ) → IsDirectory geometry image d → Enters geometry image e s d → Enters geometry image f t d → (e ≡ f) × (s ≡ t)
  pub root_none : (e s : ℕ) → Enters geometry image e s (root_of geometry) → ⊥

-- rule 12: the link count of each allocated i-node is the number of entries for it, and at least 1 except for the i-number before the root's, which
-- the seventh edition reserves for bad blocks (dcheck)
pub record HasLinks (geometry : Geometry) (image : List ℕ) : Type 0 where
  pub counts : (i : ℕ) → 1 ≤ i → i ≤ geometry.last_inode → kind_at geometry image i ≢ kinds.Free
      → (inode_of geometry.edition image i).links ≡ entry_count geometry image i
  pub linked : (i : ℕ) → root_of geometry ≤ i → i ≤ geometry.last_inode → kind_at geometry image i ≢ kinds.Free
      → 1 ≤ (inode_of geometry.edition image i).links
