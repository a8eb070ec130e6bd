-- Counting the entries for each i-number while iterating over the entries of a volume.
use Rattle.std.specs.Prelude.{◌≡◌, ◌≢◌, ℕ, ◌+◌, ◌≤◌, ◌&&◌, Bool, nat_lt, List, length, slice_index}
use Rattle.std.specs.List.{count_by, sum_by, range_with_len}
use Rattle.vol_layout.specs.Inode.{inode_of}
use Rattle.vol_file.specs.Rules.{kind_at}
use Rattle.vol_dir.specs.Entries.{entry_at, slot_count}
use Rattle.vol_layout.specs.declared.geometry.Geometry.{Geometry}
use Rattle.vol_layout.specs.declared.mode.Kind.{Kind}
use Rattle.vol_layout.specs.declared.mode.Kind.TheVariants as kinds
use Rattle.vol_judge.specs.Directories.{root_of, is_for, entry_count}
use Rattle.vol_judge.specs.Steps.{rank}

-- true if slot t of directory d is before a position and has an entry for i-number i (dcheck)
abbrev pub is_before : Geometry → List ℕ → ℕ → ℕ → ℕ → ℕ → Bool
is_before geometry image place i d t = is_for i (entry_at geometry image d t) && nat_lt (rank d t) place

-- the number of slots of i-number d that are before a position and have an entry for i-number i; 0 unless the given kind is directory (dcheck)
abbrev pub count_before_in : Geometry → List ℕ → ℕ → ℕ → ℕ → Kind → ℕ
count_before_in geometry image place i d kinds.Directory = count_by (is_before geometry image place i d) (range_with_len 0 (slot_count geometry image d))
count_before_in geometry image place i d kinds.Free = 0
count_before_in geometry image place i d kinds.Regular = 0
count_before_in geometry image place i d kinds.Special = 0
count_before_in geometry image place i d kinds.Odd = 0

-- the number of entries for i-number i before a position (dcheck)
unfoldable pub count_before : Geometry → List ℕ → ℕ → ℕ → ℕ
count_before geometry image place i =
    sum_by (λ d. count_before_in geometry image place i d (kind_at geometry image d)) (range_with_len 1 geometry.last_inode)

-- each count is the number of entries for its i-number before a position, and is no greater than that position (this project)
pub record CountsBefore (geometry : Geometry) (image : List ℕ) (place : ℕ) (counts : List ℕ) : Type 0 where
  pub room : length counts ≡ geometry.last_inode + 1
  pub few : (i : ℕ) → slice_index counts i ≤ place
  pub count : (i : ℕ) → i ≤ geometry.last_inode → slice_index counts i ≡ count_before geometry image place i

-- each count is the number of entries for its i-number (dcheck)
pub record HasCounts (geometry : Geometry) (image counts : List ℕ) : Type 0 where
  pub room : length counts ≡ geometry.last_inode + 1
  pub count : (i : ℕ) → i ≤ geometry.last_inode → slice_index counts i ≡ entry_count geometry image i

-- i-node i is free, or its link count is the given number, which is at least 1 from the root's i-number on (rule 12)
abbrev pub IsCounted : Geometry → List ℕ → ℕ → ℕ → Type 0
IsCounted geometry image i count =
    kind_at geometry image i ≢ kinds.Free
    → ((inode_of geometry.edition image i).links ≡ count) × (root_of geometry ≤ i → 1 ≤ (inode_of geometry.edition image i).links)
