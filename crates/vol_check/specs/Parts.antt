-- The pieces of a sweep over directories: one for each i-number, but a large directory has one for each 64 logical blocks and one for the rest.
use Rattle.std.specs.Prelude.{◌≡◌, ℕ, zero, suc, ◌+◌, ◌-◌, ◌/◌, ◌<◌, ◌≤◌, max, nat_lt, if◌then◌else◌, List, length, slice_index}
use Rattle.vol_layout.specs.Body.{body_size}
use Rattle.vol_layout.specs.declared.geometry.Geometry.{Geometry}
use Rattle.vol_layout.specs.declared.mode.Kind.{Kind}
use Rattle.vol_layout.specs.declared.mode.Kind.TheVariants as kinds
use Rattle.vol_file.specs.Rules.{kind_at}
use Rattle.vol_file.specs.Changes.{whole_blocks}
use Rattle.count_table.specs.Sums.{below}
use Rattle.vol_check.specs.declared.parts.Part.{Part}

-- the number of pieces of an i-number of this kind, whose body has this number of logical blocks (this project)
abbrev pub parts_of : Kind → ℕ → ℕ
parts_of kinds.Directory blocks = max 1 ((blocks + 63) / 64)
parts_of kinds.Free blocks = 1
parts_of kinds.Regular blocks = 1
parts_of kinds.Special blocks = 1
parts_of kinds.Odd blocks = 1

-- the number of pieces of i-number `i` (this project)
unfoldable pub part_count : Geometry → List ℕ → ℕ → ℕ
part_count g image i = parts_of (kind_at g image i) (whole_blocks (body_size g image i))

-- the number of pieces of the first `n` i-numbers (this project)
abbrev pub parts_before : Geometry → List ℕ → ℕ → ℕ
parts_before g image n = below (λ k. part_count g image (k + 1)) n

-- for each i-number, the number of pieces before its first one, then the total (this project)
pub record HasStarts (g : Geometry) (image starts : List ℕ) : Type 0 where
  pub wide : length starts ≡ g.last_inode + 1
  pub at : (n : ℕ) → n ≤ g.last_inode → slice_index starts n ≡ parts_before g image n

-- piece `number` is this part of an i-number (this project)
pub record IsPart (starts : List ℕ) (number : ℕ) (part : Part) : Type 0 where
  pub first : 1 ≤ part.inode
  pub last : part.inode < length starts
  pub start : slice_index starts (part.inode - 1) + part.index ≡ number
  pub end : number < slice_index starts part.inode

-- the weight of piece `p`, computed from its i-number and its part of that i-number: the pieces belong to `n` i-numbers starting with `i`, and
-- i-number `i` has `count i` of them; 0 past the last (this project)
unfoldable pub piece_value : (ℕ → ℕ) → (ℕ → ℕ → ℕ) → ℕ → ℕ → ℕ → ℕ
piece_value count weight i zero p = 0
piece_value count weight i (suc n) p = if nat_lt p (count i) then weight i p else piece_value count weight (i + 1) n (p - count i)
