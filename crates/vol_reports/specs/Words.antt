-- The words of a table of counts, and the count in each of them.
use Rattle.std.specs.Prelude.{◌≡◌, ℕ, ◌+◌, ◌-◌, ◌*◌}
use Rattle.vol_layout.specs.declared.geometry.Geometry.{Geometry}
use Rattle.count_table.specs.declared.rule.TableShape.{TableShape}

-- the number of data blocks of a volume (filsys.h)
abbrev pub zone_len : Geometry → ℕ
zone_len g = g.zone_end - g.zone_start

-- the word that counts the block-map positions that point to data block `b` (this project)
abbrev pub place_word : Geometry → ℕ → ℕ
place_word g b = 1 + (b - g.zone_start)

-- the word that counts how often data block `b` is in the free list (this project)
abbrev pub free_word : Geometry → ℕ → ℕ
free_word g b = 1 + (zone_len g + (b - g.zone_start))

-- the word that counts the block-map positions of i-node `i` with numbers outside the data blocks (this project)
abbrev pub bad_word : Geometry → ℕ → ℕ
bad_word g i = 1 + (2 * zone_len g + (i - 1))

-- the words that count the i-nodes of a kind: regular files, directories, special files, odd i-nodes (this project)
abbrev pub kind_word : Geometry → ℕ → ℕ
kind_word g k = 1 + (2 * zone_len g + (g.last_inode + k))

-- the word for the least number outside the data blocks in the block map of i-node `i` (this project)
abbrev pub least_word : Geometry → ℕ → ℕ
least_word g i = 1 + (2 * zone_len g + (g.last_inode + 4)) + (i - 1)

-- a table of counts has the words of the block report, and a piece for the free list and for each i-number (this project)
pub record HasWords (g : Geometry) (shape : TableShape) : Type 0 where
  pub pieces : shape.pieces ≡ g.last_inode + 1
  pub counts : shape.counts ≡ 2 * zone_len g + (g.last_inode + 4)
  pub leasts : shape.leasts ≡ g.last_inode

-- the word that counts the entries for i-number `i` (this project)
abbrev pub entry_word : ℕ → ℕ
entry_word i = i

-- a table of counts has a word that counts the entries for each i-number (this project)
pub record HasEntryWords (g : Geometry) (shape : TableShape) : Type 0 where
  pub counts : shape.counts ≡ g.last_inode
  pub leasts : shape.leasts ≡ 0

-- the word for the rank of the first entry for i-number `i`, other than `.` and `..` (this project)
abbrev pub name_word : ℕ → ℕ
name_word i = i

-- a table of counts has a minimum word for each i-number (this project)
pub record HasNameWords (g : Geometry) (shape : TableShape) : Type 0 where
  pub counts : shape.counts ≡ 0
  pub leasts : shape.leasts ≡ g.last_inode
