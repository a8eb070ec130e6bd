-- Entries of directories, with their positions.
use Rattle.std.specs.Prelude.{ℕ, List}

-- an entry of a directory: its slot, its i-number, and its name (manual section 5, directories)
pub record Placed : Type 0 where
  pub directory : ℕ
  pub slot : ℕ
  pub inode : ℕ
  pub name : List ℕ

-- the entry in a slot (manual section 5, directories)
abbrev pub placed : ℕ → ℕ → ℕ → List ℕ → Placed
placed directory slot inode name = record { directory = directory; slot = slot; inode = inode; name = name }
