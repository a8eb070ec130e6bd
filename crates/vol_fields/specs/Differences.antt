-- The differences between two images, and their text.
use Rattle.std.specs.Prelude.{◌≡◌, ℕ, ◌+◌, ◌-◌, ◌^◌, ◌<◌, ◌≤◌, ◌==◌, min, Bool, if◌then◌else◌, List, [], ◌∷◌, ◌++◌, length, map, slice_index, slice_index_or}
use Rattle.std.specs.List.{flat_map}
use Rattle.vol_layout.specs.declared.geometry.Geometry.{Geometry}
use Rattle.vol_fields.specs.Changes.{ListsChanges}
use Rattle.vol_fields.specs.DiffLines.{difference_line}
use Rattle.vol_fields.specs.FieldGroups.{field_joins}
use Rattle.vol_fields.specs.Groups.{AreGroups}
use Rattle.vol_fields.specs.RoleChanges.{block_joins, changed_blocks}
use Rattle.vol_fields.specs.declared.differences.Difference.{Difference}
use Rattle.vol_fields.specs.declared.differences.Difference.TheVariants as kinds
use Rattle.vol_fields.specs.declared.field.Field.{Field}
use Rattle.vol_fields.specs.declared.groups.Group.{Group}
use Rattle.vol_fields.specs.declared.names.Name.TheVariants as names
use Rattle.vol_fields.specs.declared.role.Role.{Role}
use Rattle.vol_fields.specs.declared.runs.Spot.{Spot}

-- the fewest entries that are shown as one; if all are to be shown, none are (this project)
abbrev pub least : Bool → ℕ → ℕ
least all few = if all then 2 ^ 64 - 1 else few

-- a place that no list has (this project)
abbrev pub no_spot : Spot
no_spot = record { name = names.Past; index = 0; start = 0; bytes = 0 }

-- a field that no list has (this project)
abbrev pub no_field : Field
no_field = record { part = no_spot; spot = no_spot }

-- two lengths, if they differ (this project)
abbrev pub length_differences : ℕ → ℕ → List Difference
length_differences old new = if old == new then [] else kinds.Lengths old new ∷ []

-- a group of blocks (this project)
abbrev pub role_difference : List ℕ → Group → Difference
role_difference blocks group = kinds.Roles (slice_index blocks group.first) (slice_index blocks group.last) (group.last - group.first + 1)

-- a group of fields: the only one, or those of an array (this project)
abbrev pub field_difference : List Field → Group → Difference
field_difference fields group =
    if group.first == group.last then kinds.Field (slice_index_or fields group.first no_field)
    else kinds.Fields (slice_index_or fields group.first no_field) (slice_index_or fields group.last no_field) (group.last - group.first + 1)

-- the list is the blocks whose roles differ; those with the changes of roles that follow one another are one difference, or one each (this project)
abbrev pub AreRoleDifferences : List Role → List Role → Bool → List Difference → Type 0
AreRoleDifferences old new all found =
    let blocks = changed_blocks old new in
    (groups : List Group) × AreGroups (block_joins old new blocks) (least all 2) groups × (found ≡ map (role_difference blocks) groups)

-- the list is the fields of the new image whose bytes differ; nine or more of one array are one difference, or one each (this project)
abbrev pub AreFieldDifferences : List ℕ → Geometry → List Role → List ℕ → Bool → List Difference → Type 0
AreFieldDifferences old h roles new all found =
    (fields : List Field) × ListsChanges h roles new old (min (length new) (length old)) fields
    × ((groups : List Group) × AreGroups (field_joins fields) (least all 9) groups × (found ≡ map (field_difference fields) groups))

-- the list is the differences between two images: first their lengths, then the roles of their blocks, then their fields (this project)
unfoldable pub ListsDifferences : List Role → List ℕ → Geometry → List Role → List ℕ → Bool → List Difference → Type 0
ListsDifferences table old h roles new all found =
    (blocks : List Difference) × AreRoleDifferences table roles all blocks
    × ((fields : List Difference) × AreFieldDifferences old h roles new all fields
    × (found ≡ length_differences (length old) (length new) ++ (blocks ++ fields)))

-- a field that differs is within an image of `len` bytes, and begins within one of `other` bytes (this project)
abbrev pub IsShared : ℕ → ℕ → Difference → Type 0
IsShared len other (kinds.Field field) = (field.spot.start + field.spot.bytes ≤ len) × (field.spot.start < other)
IsShared len other difference = Unit {0}

-- the text is the differences between two images, a line for each (this project)
abbrev pub IsDiffText : Geometry → List Role → List ℕ → Geometry → List Role → List ℕ → Bool → List ℕ → Type 0
IsDiffText g table old h roles new all text =
    (found : List Difference) × ListsDifferences table old h roles new all found × (text ≡ flat_map (difference_line g table old roles new) found)
