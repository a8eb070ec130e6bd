-- Laws of the field map.
use Rattle.std.specs.Prelude.{◌≡◌, ℕ, ◌+◌, ◌*◌, ◌<◌, ◌≤◌, ◌↔◌, Bool, List, [], length, min, slice_index_or}
use Rattle.std.specs.List.{Contains}
use Rattle.vol_layout.specs.Geometry.{Fits}
use Rattle.vol_layout.specs.Edition.{constants}
use Rattle.vol_layout.specs.Inode.{inode_place}
use Rattle.vol_layout.specs.Super.{free_head, cache_head, flag_place, time_place}
use Rattle.vol_layout.specs.declared.edition.Edition.{Edition}
use Rattle.vol_layout.specs.declared.edition.Edition.TheVariants.{V6, V7}
use Rattle.vol_layout.specs.declared.geometry.Geometry.{Geometry}
use Rattle.vol_layout.specs.declared.super_block.Flag.TheVariants as flags
use Rattle.vol_fields.specs.Changes.{Differs, ListsChanges}
use Rattle.vol_fields.specs.Differences.{IsDiffText}
use Rattle.vol_fields.specs.FieldGroups.{field_joins}
use Rattle.vol_fields.specs.Fields.{field_at}
use Rattle.vol_fields.specs.Groups.{AreGroups}
use Rattle.vol_fields.specs.Runs.{spot_at, total}
use Rattle.vol_fields.specs.Tables.{parts, super_runs, node_runs}
use Rattle.vol_fields.specs.declared.field.Field.{Field}
use Rattle.vol_fields.specs.declared.groups.Group.{Group}
use Rattle.vol_fields.specs.declared.names.Name.{Name}
use Rattle.vol_fields.specs.declared.names.Name.TheVariants as names
use Rattle.vol_fields.specs.declared.role.Role.{Role}
use Rattle.vol_fields.specs.declared.runs.Run.{Run}

-- two bytes of an image are in the same field if and only if the second is between the ends of the first one's field, whatever the roles of its
-- blocks; so each byte is in exactly one field, and the bytes of a field are consecutive (this project's law)
abbrev pub PartsImage : Type 0
PartsImage = (g : Geometry) (image : List ℕ) (roles : List Role) (n q : ℕ) → Fits g image → n < length image → q < length image
    → let field = field_at g roles (length image) n in
    (field_at g roles (length image) q ≡ field) ↔ ((field.spot.start ≤ q) × (q < field.spot.start + field.spot.bytes))

-- the parts of an image have all its bytes, and no more (this project's law)
abbrev pub CoversImage : Type 0
CoversImage = (g : Geometry) (image : List ℕ) → Fits g image → total (parts g (length image)) ≡ length image

-- byte n begins the field with this name, index and size, if the runs begin at byte `base` (this project)
abbrev pub Begins : List Run → ℕ → ℕ → Name → ℕ → ℕ → Type 0
Begins runs base n name k bytes = spot_at runs base n ≡ record { name = name; index = k; start = n; bytes = bytes }

-- the fields of the super-block begin where the layout stores them (this project's law)
pub record FollowsSuper (edition : Edition) : Type 0 where
  pub list_size : Begins (super_runs edition) 512 512 names.ListSize 0 2
  pub block_count : Begins (super_runs edition) 512 514 names.BlockCount 0 (constants edition).number_bytes
  pub free_count : Begins (super_runs edition) 512 (free_head edition) names.FreeCount 0 2
  pub free : (k : ℕ) → k < (constants edition).free_slots
      → Begins (super_runs edition) 512 (free_head edition + 2 + (constants edition).number_bytes * k) names.Free k (constants edition).number_bytes
  pub cache_count : Begins (super_runs edition) 512 (cache_head edition) names.CacheCount 0 2
  pub cached : (k : ℕ) → k < 100 → Begins (super_runs edition) 512 (cache_head edition + 2 + 2 * k) names.Cached k 2
  pub free_lock : Begins (super_runs edition) 512 (flag_place edition flags.FreeLock) names.FreeLock 0 1
  pub inode_lock : Begins (super_runs edition) 512 (flag_place edition flags.InodeLock) names.InodeLock 0 1
  pub modified : Begins (super_runs edition) 512 (flag_place edition flags.Modified) names.Modified 0 1
  pub read_only : Begins (super_runs edition) 512 (flag_place edition flags.ReadOnly) names.ReadOnly 0 1
  pub time : Begins (super_runs edition) 512 (time_place edition) names.Time 0 4

-- the fields of the i-node at byte `at` begin where the layout stores them (manual section 5 of the sixth edition, file system; ino.h of the seventh)
abbrev pub FollowsNode : Edition → ℕ → Type 0
FollowsNode V6 at =
    Begins (node_runs V6) at at names.Mode 0 2 × Begins (node_runs V6) at (at + 2) names.Links 0 1
    × Begins (node_runs V6) at (at + 3) names.Uid 0 1 × Begins (node_runs V6) at (at + 4) names.Gid 0 1
    × Begins (node_runs V6) at (at + 5) names.Size 0 3
    × ((k : ℕ) → k < 8 → Begins (node_runs V6) at (at + 8 + 2 * k) names.Address k 2)
    × Begins (node_runs V6) at (at + 24) names.Accessed 0 4 × Begins (node_runs V6) at (at + 28) names.Written 0 4
FollowsNode V7 at =
    Begins (node_runs V7) at at names.Mode 0 2 × Begins (node_runs V7) at (at + 2) names.Links 0 2
    × Begins (node_runs V7) at (at + 4) names.Uid 0 2 × Begins (node_runs V7) at (at + 6) names.Gid 0 2
    × Begins (node_runs V7) at (at + 8) names.Size 0 4
    × ((k : ℕ) → k < 13 → Begins (node_runs V7) at (at + 12 + 3 * k) names.Address k 3)
    × Begins (node_runs V7) at (at + 52) names.Accessed 0 4 × Begins (node_runs V7) at (at + 56) names.Written 0 4
    × Begins (node_runs V7) at (at + 60) names.Changed 0 4

-- each i-node is a part with its i-number, and each data block one with its number, where the layout stores it (manual section 5, file system)
pub record FollowsParts (g : Geometry) (image : List ℕ) : Type 0 where
  pub inode : (i : ℕ) → 1 ≤ i → i ≤ g.last_inode → Begins (parts g (length image)) 0 (inode_place g.edition i) names.Node i (constants g.edition).inode_bytes
  pub block : (b : ℕ) → g.zone_start ≤ b → b < g.zone_end → Begins (parts g (length image)) 0 (512 * b) names.Data b 512

-- parts and fields begin where the layout stores them (this project's law)
pub record FollowsLayout : Type 0 where
  pub parts : (g : Geometry) (image : List ℕ) → Fits g image → FollowsParts g image
  pub super_block : (edition : Edition) → FollowsSuper edition
  pub inode : (edition : Edition) (at : ℕ) → FollowsNode edition at

-- the text of the differences is empty if and only if the images are equal byte for byte; equal images have equal sizes and roles (this project's law)
abbrev pub TellsNothingIfEqual : Type 0
TellsNothingIfEqual = (g h : Geometry) (table roles : List Role) (old new : List ℕ) (all : Bool) (text : List ℕ)
    → IsDiffText g table old h roles new all text → (old ≡ new → table ≡ roles → text ≡ []) × (text ≡ [] → old ≡ new)

-- each byte that both images have and that differs is in a field of a group, and so in a line: this field is the one at place k of those that differ,
-- and the group has place k (this project's law)
abbrev pub TellsEachByte : Type 0
TellsEachByte = (h : Geometry) (roles : List Role) (old new : List ℕ) (least : ℕ) (fields : List Field) (groups : List Group)
    → ListsChanges h roles new old (min (length new) (length old)) fields → AreGroups (field_joins fields) least groups
    → (n : ℕ) → n < length new → n < length old → Differs new old n
    → (group : Group) × Contains groups group × ((k : ℕ) × (group.first ≤ k) × (k ≤ group.last) × (k < length fields)
    × ((d : Field) → slice_index_or fields k d ≡ field_at h roles (length new) n))
