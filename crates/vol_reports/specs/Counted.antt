-- The counts of an image, word by word.
use Rattle.std.specs.Prelude.{◌≡◌, ℕ, ◌+◌, ◌*◌, ◌<◌, ◌≤◌, true, List, length, slice_index, slice_index_or, Option, None, Some}
use Rattle.std.specs.List.{sum_by}
use Rattle.vol_layout.specs.Geometry.{in_zone}
use Rattle.vol_layout.specs.declared.geometry.Geometry.{Geometry}
use Rattle.vol_layout.specs.declared.mode.Kind.TheVariants as kinds
use Rattle.vol_judge.specs.Directories.{entry_count}
use Rattle.vol_judge.specs.Steps.{rank}
use Rattle.vol_reports.specs.Words.{zone_len, place_word, free_word, bad_word, kind_word, least_word, entry_word, name_word}
use Rattle.vol_free.specs.FreeWalk.{free_walk}
use Rattle.vol_reports.specs.Placed.{Placed}
use Rattle.vol_reports.specs.Icheck.{use_count, met_count, bad_numbers, least_of, kind_count}
use Rattle.vol_reports.specs.Dcheck.{link_count, wants_entry}
use Rattle.vol_reports.specs.Ncheck.{all_entries, naming_entry}
use Rattle.vol_free.specs.declared.free_walk.FreeFault.{FreeFault}
use Rattle.vol_reports.specs.declared.inode_link_counts.LinkCount.{LinkCount}

-- there are as many words as a block report needs (this project)
abbrev pub HasBlockWidth : Geometry → List ℕ → Type 0
HasBlockWidth g words = length words ≡ 1 + (2 * zone_len g + (g.last_inode + 4)) + g.last_inode

-- the words are the block counts of an image, and this is the fault that ended the walk over its free list (icheck)
pub record CountsBlocks (g : Geometry) (image words : List ℕ) (fault : Option (FreeFault × ℕ)) : Type 0 where
  pub wide : HasBlockWidth g words
  pub places : (b : ℕ) → in_zone g b ≡ true → slice_index words (place_word g b) ≡ use_count g image b
  pub frees : (b : ℕ) → in_zone g b ≡ true → slice_index words (free_word g b) ≡ met_count g image b
  pub bads : (i : ℕ) → 1 ≤ i → i ≤ g.last_inode → slice_index words (bad_word g i) ≡ length (bad_numbers g image i)
  pub leasts : (i : ℕ) → 1 ≤ i → i ≤ g.last_inode → slice_index words (least_word g i) ≡ least_of (bad_numbers g image i)
  pub files : slice_index words (kind_word g 0) ≡ kind_count g image kinds.Regular
  pub directories : slice_index words (kind_word g 1) ≡ kind_count g image kinds.Directory
  pub specials : slice_index words (kind_word g 2) ≡ kind_count g image kinds.Special
  pub odds : slice_index words (kind_word g 3) ≡ kind_count g image kinds.Odd
  pub ended : fault ≡ (free_walk g image).fault

-- these are the link counts of an image, starting with i-number 1 (dcheck)
pub record HasLinkCounts (g : Geometry) (image : List ℕ) (links : List LinkCount) : Type 0 where
  pub wide : length links ≡ g.last_inode
  pub counts : (k : ℕ) (d : LinkCount) → k < g.last_inode → (slice_index_or links k d).links ≡ link_count g image (k + 1)
  pub wanted : (k : ℕ) (d : LinkCount) → k < g.last_inode → (slice_index_or links k d).wants_entry ≡ wants_entry g image (k + 1)

-- there are as many words as an entry report or a name report needs: word 0, and one for each i-number (this project)
abbrev pub HasEntryWidth : Geometry → List ℕ → Type 0
HasEntryWidth g words = length words ≡ 1 + g.last_inode

-- the words are the entry counts of an image (dcheck)
pub record CountsEntries (g : Geometry) (image words : List ℕ) : Type 0 where
  pub wide : HasEntryWidth g words
  pub entries : (i : ℕ) → 1 ≤ i → i ≤ g.last_inode → slice_index words (entry_word i) ≡ entry_count g image i

-- the rank of an entry among the slots of all directories, or 2^64 - 1 if there is none (ncheck)
abbrev pub rank_of : Option Placed → ℕ
rank_of None = 18446744073709551615
rank_of (Some entry) = rank entry.directory entry.slot

-- the words are the ranks of the naming entries of an image, and these are its entries, each once, in any order (ncheck)
pub record CountsNames (g : Geometry) (image words : List ℕ) (entries : List Placed) : Type 0 where
  pub wide : HasEntryWidth g words
  pub ranks : (i : ℕ) → 1 ≤ i → i ≤ g.last_inode → slice_index words (name_word i) ≡ rank_of (naming_entry i (all_entries g image))
  pub same : (weight : Placed → ℕ) → sum_by weight entries ≡ sum_by weight (all_entries g image)
