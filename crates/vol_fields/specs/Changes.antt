-- The fields that differ between two images.
use Rattle.std.specs.Prelude.{◌≡◌, ◌≢◌, ℕ, ◌+◌, ◌<◌, ◌≤◌, List, length, slice_index, slice_index_or}
use Rattle.std.specs.List.{All, Contains}
use Rattle.vol_layout.specs.declared.geometry.Geometry.{Geometry}
use Rattle.vol_fields.specs.Fields.{field_at}
use Rattle.vol_fields.specs.declared.field.Field.{Field}
use Rattle.vol_fields.specs.declared.role.Role.{Role}

-- byte n of the images differs (this project)
abbrev pub Differs : List ℕ → List ℕ → ℕ → Type 0
Differs old new n = slice_index old n ≢ slice_index new n

-- the fields listed are exactly those in which a byte before `to` differs, each once and in the order of their bytes (this project)
pub record ListsChanges (g : Geometry) (roles : List Role) (old new : List ℕ) (to : ℕ) (found : List Field) : Type 0 where
  pub all : (n : ℕ) → n < to → Differs old new n → Contains found (field_at g roles (length old) n)
  pub only : (f : Field) → Contains found f → (n : ℕ) × (n < to) × Differs old new n × (field_at g roles (length old) n ≡ f)
  pub ascending : (k : ℕ) (d : Field) → k + 1 < length found
      → (slice_index_or found k d).spot.start + (slice_index_or found k d).spot.bytes ≤ (slice_index_or found (k + 1) d).spot.start

-- the fields listed are those that differ before byte n, and all fields up to byte `covered` are among them (this project)
pub record ListsUpTo (g : Geometry) (roles : List Role) (old new : List ℕ) (n covered : ℕ) (found : List Field) : Type 0 where
  pub lists : ListsChanges g roles old new n found
  pub covers : (m : ℕ) → n ≤ m → m < covered → Contains found (field_at g roles (length old) m)
  pub ends : (f : Field) → Contains found f → f.spot.start + f.spot.bytes ≤ covered
  pub edge : (m : ℕ) → covered ≤ m → m < length old → covered ≤ (field_at g roles (length old) m).spot.start

-- each field is within an image of `len` bytes, and begins within one of `other` bytes (this project)
abbrev pub AreShared : ℕ → ℕ → List Field → Type 0
AreShared len other fields = All (λ field. (field.spot.start + field.spot.bytes ≤ len) × (field.spot.start < other)) fields
