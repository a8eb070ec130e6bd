-- Free i-numbers, and the super-block's cache of some of them.
use Rattle.std.specs.Prelude.{◌≡◌, ℕ, ◌+◌, ◌*◌, ◌<◌, ◌≤◌, if◌then◌else◌, nat_lt, List, length, slice_index}
use Rattle.pdp_words.specs.Words.{word}
use Rattle.vol_layout.specs.Edition.{constants}
use Rattle.vol_layout.specs.Inode.{inode_place}
use Rattle.vol_layout.specs.Super.{cache_head}
use Rattle.vol_layout.specs.declared.edition.Edition.{Edition}
use Rattle.vol_layout.specs.declared.geometry.Geometry.{Geometry}

-- i-number i is free for a new i-node: it is above the root's, it is on the volume, and the mode of its i-node is 0 (manual section 5, file system)
pub record IsFreeNumber (geometry : Geometry) (image : List ℕ) (i : ℕ) : Type 0 where
  pub above : (constants geometry.edition).root < i
  pub within : i ≤ geometry.last_inode
  pub mode : word image (inode_place geometry.edition i) ≡ 0

-- the number of i-numbers in the cache: ninode, or 0 if ninode is above 100 (filsys.h; the case above 100 is this project's)
abbrev pub cache_len : Edition → List ℕ → ℕ
cache_len edition image = if nat_lt 100 (word image (cache_head edition)) then 0 else word image (cache_head edition)

-- i-number i was stored in slot n of the cache, and the count set to n + 1; all else stays (Lions on ifree)
pub record Cached (edition : Edition) (old new : List ℕ) (n i : ℕ) : Type 0 where
  pub count : word new (cache_head edition) ≡ n + 1
  pub number : word new (cache_head edition + 2 + 2 * n) ≡ i
  pub len : length new ≡ length old
  pub below : (k : ℕ) → k < cache_head edition → slice_index new k ≡ slice_index old k
  pub between : (k : ℕ) → cache_head edition + 2 ≤ k → k < cache_head edition + 2 + 2 * n → slice_index new k ≡ slice_index old k
  pub above : (k : ℕ) → cache_head edition + 4 + 2 * n ≤ k → slice_index new k ≡ slice_index old k
