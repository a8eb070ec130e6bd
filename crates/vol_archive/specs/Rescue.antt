-- Rescuing everything that has an i-node.
use Rattle.std.specs.Prelude.{◌≡◌, ◌<◌, ◌≤◌, ◌+◌, ℕ, Bool, true, false, if◌then◌else◌, All, List, [], ◌∷◌, ◌++◌}
use Rattle.vol_dir.specs.Tree.{is_number}
use Rattle.vol_judge.specs.Directories.{root_of}
use Rattle.vol_layout.specs.declared.geometry.Geometry.{Geometry}
use Rattle.vol_archive.specs.Export.{is_directory}
use Rattle.vol_archive.specs.Walk.{IsLostWalk, IsOrphanWalk, is_first, lost_entry, met, with_lost_directory}
use Rattle.vol_archive.specs.declared.met_entries.MetEntry.{MetEntry}

-- everything visited below `start`, which is a directory or not, and then these i-nodes; only the i-nodes, if it isn't one (fsck)
abbrev pub IsWalkFrom : Bool → Geometry → List ℕ → ℕ → List ℕ → List MetEntry → Type 0
IsWalkFrom true geometry image start lost all = IsLostWalk geometry image start lost all
IsWalkFrom false geometry image start lost all = IsOrphanWalk geometry image start lost all

-- everything visited below `start` if it is a directory, and then these i-nodes (fsck)
abbrev pub IsWalkWith : Geometry → List ℕ → ℕ → List ℕ → List MetEntry → Type 0
IsWalkWith geometry image start lost all = IsWalkFrom (is_directory geometry image start) geometry image start lost all

-- true if i-node `i` is missed: visited now, by its number in the directory of lost i-nodes, it would become the first member for it (fsck)
abbrev pub is_missed : Geometry → List ℕ → ℕ → List MetEntry → ℕ → Bool
is_missed geometry image start founds i = is_first (met geometry image start founds (lost_entry i)).role

-- `i` is the least i-number, from the root's on, whose i-node is missed (fsck)
pub record IsLeastMissed (geometry : Geometry) (image : List ℕ) (founds : List MetEntry) (i : ℕ) : Type 0 where
  pub from : root_of geometry ≤ i
  pub missed : is_missed geometry image (root_of geometry) founds i ≡ true
  pub before : (k : ℕ) → root_of geometry ≤ k → k < i → is_missed geometry image (root_of geometry) founds k ≡ false

-- the walk from the root with the i-nodes that have no entry; and as often as an i-node is still missed, the walk with the least such i-node after
-- the others (fsck; this project)
pub data Rescues (geometry : Geometry) (image orphans : List ℕ) : List ℕ → List MetEntry → Type 0 where
  begins : (founds : List MetEntry) → IsWalkWith geometry image (root_of geometry) orphans founds → Rescues geometry image orphans [] founds
  takes : (unreached : List ℕ) (founds all : List MetEntry) (i : ℕ) → Rescues geometry image orphans unreached founds
      → IsLeastMissed geometry image founds i → IsWalkWith geometry image (root_of geometry) (orphans ++ (unreached ++ i ∷ [])) all
      → Rescues geometry image orphans (unreached ++ i ∷ []) all

-- the visited entries, followed by the directory of lost i-nodes if `i` is the first i-number in it (this project)
abbrev pub with_first : Bool → ℕ → ℕ → List MetEntry → List MetEntry
with_first first start i founds = if first then with_lost_directory start (i ∷ []) founds else founds

-- the i-nodes that were still missed were taken, up to i-number `end` (this project)
pub record IsRescuedUpTo (geometry : Geometry) (image orphans unreached : List ℕ) (founds : List MetEntry) (end : ℕ) : Type 0 where
  pub rescues : Rescues geometry image orphans unreached founds
  pub numbers : All (λ i. is_number geometry i ≡ true) unreached
  pub whole : (k : ℕ) → root_of geometry ≤ k → k < end → is_missed geometry image (root_of geometry) founds k ≡ false

-- everything in a volume was visited: after the root and the i-nodes without an entry also those that were still missed, and now none is (this
-- project)
abbrev pub IsRescued : Geometry → List ℕ → List ℕ → List ℕ → List MetEntry → Type 0
IsRescued geometry image orphans unreached all = IsRescuedUpTo geometry image orphans unreached all (geometry.last_inode + 1)

-- the i-nodes, in the order in which they are taken, that are missed by a walk from the root with those that have no entry (this project)
abbrev pub AreUnreached : Geometry → List ℕ → List ℕ → List ℕ → Type 0
AreUnreached geometry image orphans unreached = (all : List MetEntry) × IsRescued geometry image orphans unreached all

-- everything visited below `start`, and then all i-nodes of the volume that aren't reached from the root; if `start` is the root, no i-node is missed
-- (this project)
pub record IsRescue (geometry : Geometry) (image : List ℕ) (start : ℕ) (orphans unreached : List ℕ) (founds : List MetEntry) : Type 0 where
  pub missed : AreUnreached geometry image orphans unreached
  pub walk : IsWalkWith geometry image start (orphans ++ unreached) founds
  pub whole : start ≡ root_of geometry → IsRescued geometry image orphans unreached founds
