-- The first byte in which two files differ.
use Rattle.std.specs.Prelude.{◌≡◌, ◌≢◌, ℕ, suc, ◌<◌, ◌==◌, if◌then◌else◌, List, [], ◌∷◌, Option, None, Some}
use Rattle.std.specs.Option.{option_map}
use Rattle.vol_file.specs.Holes.{IsHole}
use Rattle.vol_layout.specs.BlockPointers.{form_at}
use Rattle.vol_layout.specs.Body.{body, body_byte}
use Rattle.vol_compare.specs.declared.bodies.StoredFile.{StoredFile}

-- the first place at which two lists of bytes differ, or at which only one of them ends; `None` if they are equal (cmp)
unfoldable pub first_difference : List ℕ → List ℕ → Option ℕ
first_difference [] [] = None
first_difference [] (y ∷ ys) = Some 0
first_difference (x ∷ xs) [] = Some 0
first_difference (x ∷ xs) (y ∷ ys) = if x == y then option_map suc (first_difference xs ys) else Some 0

-- the bytes of a file (manual section 5, file system)
abbrev pub body_in : StoredFile → List ℕ
body_in file = body file.geometry.now file.image.now file.inode

-- byte n of a file (Lions on bmap)
abbrev pub byte_in : StoredFile → ℕ → ℕ
byte_in file n = body_byte file.geometry.now file.image.now file.inode n

-- no block number is stored for the logical blocks `from..end` of a file (Lions on bmap)
abbrev pub IsHoleIn : StoredFile → ℕ → ℕ → Type 0
IsHoleIn file from end = IsHole file.geometry.now file.image.now file.inode (form_at file.geometry.now file.image.now file.inode) from end

-- two sequences of bytes are equal before place `to` (cmp)
abbrev pub AgreeUpTo : (ℕ → ℕ) → (ℕ → ℕ) → ℕ → Type 0
AgreeUpTo f g to = (n : ℕ) → n < to → f n ≡ g n

-- the first place before `to` at which two sequences of bytes differ, if there is one (cmp)
abbrev pub IsFirstUnequal : (ℕ → ℕ) → (ℕ → ℕ) → ℕ → Option ℕ → Type 0
IsFirstUnequal f g to None = AgreeUpTo f g to
IsFirstUnequal f g to (Some n) = (n < to) × AgreeUpTo f g n × (f n ≢ g n)
