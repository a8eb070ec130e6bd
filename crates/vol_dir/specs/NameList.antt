-- The names of a directory, collected entry by entry.
use Rattle.std.specs.Prelude.{◌≡◌, ℕ, List, [], ◌∷◌, map, if◌then◌else◌}
use Rattle.std.specs.Option.{is_some}
use Rattle.vol_dir.specs.NameKeys.{key_of, IsSlotName}
use Rattle.vol_dir.specs.Names.{Names, get, insert}
use Rattle.vol_dir.specs.declared.listing.NameEntry.{NameEntry}

-- the entries of a map, with their names as lists of bytes (this project)
abbrev pub by_bytes : List (ℕ × NameEntry) → Names
by_bytes entries = map (λ (entry : ℕ × NameEntry). (entry.1.name.items, entry.1.inode)) entries

-- each entry of a map is under the number of its name (this project)
abbrev pub IsKeyed : List (ℕ × NameEntry) → Type 0
IsKeyed [] = Unit {0}
IsKeyed (entry ∷ entries) = (entry.0 ≡ key_of entry.1.name.items) × IsSlotName entry.1.name.items × IsKeyed entries

-- a map with one more name, or the same map if it already has the name (Lions on namei)
unfoldable pub put_first : Names → List ℕ → ℕ → Names
put_first names name i = if is_some (get names name) then names else insert names name i
