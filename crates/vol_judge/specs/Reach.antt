-- Reaching the directories from the root: walks up from directories, through their `..`.
use Rattle.std.specs.Prelude.{◌≡◌, ◌≢◌, ℕ, ◌+◌, ◌<◌, ◌==◌, ◌⊎◌, if◌then◌else◌, List, Option, None, Some, length, slice_index, slice_index_or}
use Rattle.std.specs.List.{sum_by}
use Rattle.vol_dir.specs.Entries.{IsDirectory}
use Rattle.vol_layout.specs.declared.geometry.Geometry.{Geometry}
use Rattle.vol_judge.specs.Directories.{root_of, IsReached}

-- the walks up from the directories before d have marked each directory that they passed with the number of the directory where the walk began, and
-- the root with its own number; all marked directories can be reached from the root (this project)
pub record AreWalked (geometry : Geometry) (image : List ℕ) (d : ℕ) (walks : List ℕ) : Type 0 where
  pub room : length walks ≡ geometry.last_inode + 1
  pub root : slice_index walks (root_of geometry) ≡ root_of geometry
  pub early : (i : ℕ) → i ≢ root_of geometry → slice_index walks i ≢ 0 → slice_index walks i < d
  pub reached : (i : ℕ) → slice_index walks i ≢ 0 → IsReached geometry image i

-- the walk up from directory d is at directory `at`, and the directories that it passed are marked with d; all others that are marked can be reached
-- from the root (this project)
pub record WalksUp (geometry : Geometry) (image : List ℕ) (ups : List (Option ℕ)) (d at : ℕ) (walks : List ℕ) : Type 0 where
  pub room : length walks ≡ geometry.last_inode + 1
  pub root : slice_index walks (root_of geometry) ≡ root_of geometry
  pub early : (i : ℕ) → i ≢ root_of geometry → slice_index walks i ≢ 0 → slice_index walks i < d + 1
  pub reached : (i : ℕ) → slice_index walks i ≢ 0 → slice_index walks i ≢ d → IsReached geometry image i
  pub directory : IsDirectory geometry image at
  pub onto : (i : ℕ) → slice_index walks i ≡ d → IsReached geometry image at → IsReached geometry image i
  pub way : (i : ℕ) → slice_index walks i ≡ d → IsDirectory geometry image i
  pub next : (i e : ℕ) → slice_index walks i ≡ d → slice_index_or ups i None ≡ Some e → (e ≡ at) ⊎ (slice_index walks e ≡ d)
  pub begun : (at ≡ d) ⊎ (slice_index walks d ≡ d)

-- the number of i-numbers that no walk has marked (this project)
abbrev pub unwalked : List ℕ → ℕ
unwalked walks = sum_by (λ walk. if walk == 0 then 1 else 0) walks
