-- The reports on parts of an image.
use Rattle.std.specs.Prelude.{◌≡◌, ℕ, ◌==◌, ◌||◌, nat_lt, List, Result, Ok, Err, IsOk, if◌then◌else◌, ◌+◌, ◌-◌, ◌*◌, [], ◌∷◌, length, map, slice_index}
use Rattle.std.specs.List.{count_by, range_with_len}
use Rattle.pdp_words.specs.Words.{word, long}
use Rattle.vol_layout.specs.Edition.{constants, number}
use Rattle.vol_layout.specs.Geometry.{geometry_read, list_size, block_count}
use Rattle.vol_layout.specs.Inode.{inode_of}
use Rattle.vol_layout.specs.Super.{free_head, cache_head, flag_place, time_place}
use Rattle.vol_layout.specs.declared.edition.Edition.{Edition}
use Rattle.vol_layout.specs.declared.mode.Kind.TheVariants as kinds
use Rattle.vol_layout.specs.declared.super_block.Flag.TheVariants as flags
use Rattle.vol_file.specs.Rules.{kind_at}
use Rattle.vol_judge.specs.Directories.{root_of}
use Rattle.vol_reports.specs.Icheck.{is_kind}
use Rattle.vol_free.specs.FreeWalk.{free_walk}
use Rattle.vol_layout.specs.declared.geometry.Geometry.{Geometry}
use Rattle.vol_layout.specs.declared.geometry.GeometryFault.{GeometryFault}
use Rattle.vol_inspect.specs.declared.fault.InspectFault.{InspectFault}
use Rattle.vol_inspect.specs.declared.fault.InspectFault.TheVariants.{Unsound, NoEntry, NoMemory}
use Rattle.vol_inspect.specs.declared.inode_report.InodeReport.{InodeReport}
use Rattle.vol_inspect.specs.declared.super_report.SuperReport.{SuperReport}
use Rattle.vol_inspect.specs.Extents.{extents_of}

-- the number of free i-nodes, from the root's i-number on: i-node 1 of the seventh edition, which is kept for bad blocks, is never allocated (manual
-- section 5, file system; ialloc)
unfoldable pub free_inode_count : Geometry → List ℕ → ℕ
free_inode_count g image =
    count_by (λ i. is_kind kinds.Free (kind_at g image i)) (range_with_len (root_of g) (g.last_inode + 1 - root_of g))

-- a report on i-node `i` of an image with a geometry (manual section 5, file system)
pub record IsInodeReport (g : Geometry) (image : List ℕ) (i : ℕ) (report : InodeReport) : Type 0 where
  pub edition : report.edition ≡ g.edition
  pub number : report.number ≡ i
  pub node : report.node ≡ inode_of g.edition image i
  pub extents : report.extents.items ≡ extents_of g image i

-- the geometry, or the reason why this i-node of an image with the geometry isn't shown (this project)
abbrev pub numbered_in : ℕ → Result Geometry GeometryFault → Result Geometry InspectFault
numbered_in i (Err fault) = Err (Unsound fault)
numbered_in i (Ok g) = if (i == 0) || nat_lt g.last_inode i then Err NoEntry else Ok g

-- the geometry of an image whose i-node `i` can be shown, or the reason why it can't: rules 1 and 2 are checked first (this project)
unfoldable pub node_in : Edition → List ℕ → ℕ → Result Geometry InspectFault
node_in edition image i = numbered_in i (geometry_read edition image)

-- a fault of the image itself (this project)
abbrev pub IsImagesFault : InspectFault → Type 0
IsImagesFault NoMemory = ⊥
IsImagesFault NoEntry = Unit {0}
IsImagesFault (Unsound fault) = Unit {0}

-- the report on i-node `i`, or the reason why there is none (this project)
abbrev pub InspectsInode : Edition → List ℕ → ℕ → Result InodeReport InspectFault → Type 0
InspectsInode edition image i (Ok report) = (g : Geometry) × (node_in edition image i ≡ Ok g) × IsInodeReport g image i report
InspectsInode edition image i (Err NoMemory) = IsOk (node_in edition image i)
InspectsInode edition image i (Err NoEntry) = node_in edition image i ≡ Err NoEntry
InspectsInode edition image i (Err (Unsound fault)) = node_in edition image i ≡ Err (Unsound fault)

-- the number of an array's entries in use: its count, or the array's length if the count is greater (this project)
abbrev pub used : ℕ → ℕ → ℕ
used count places = if nat_lt places count then places else count

-- the numbers in use in the array after the count at byte `at`, in order (filsys.h, fblk.h)
unfoldable pub link_numbers : Edition → List ℕ → ℕ → List ℕ
link_numbers edition image at = map (λ k. number edition image (at + 2) k) (range_with_len 0 (used (word image at) (constants edition).free_slots))

-- the i-numbers in use in the cache, in order (filsys.h)
unfoldable pub cached_numbers : Edition → List ℕ → List ℕ
cached_numbers edition image = map (λ k. word image (cache_head edition + 2 + 2 * k)) (range_with_len 0 (used (word image (cache_head edition)) 100))

-- flock, ilock, fmod and ronly (filsys.h)
abbrev pub flag_bytes : Edition → List ℕ → List ℕ
flag_bytes edition image =
    slice_index image (flag_place edition flags.FreeLock) ∷ slice_index image (flag_place edition flags.InodeLock)
    ∷ slice_index image (flag_place edition flags.Modified) ∷ slice_index image (flag_place edition flags.ReadOnly) ∷ []

-- a report on the super-block of an image with a geometry (filsys.h)
pub record IsSuperReport (g : Geometry) (image : List ℕ) (report : SuperReport) : Type 0 where
  pub geometry : report.geometry ≡ g
  pub list_size : report.list_size ≡ list_size image
  pub block_count : report.block_count ≡ block_count g.edition image
  pub free_count : report.free_count ≡ word image (free_head g.edition)
  pub free : report.free.items ≡ link_numbers g.edition image (free_head g.edition)
  pub free_blocks : report.free_blocks ≡ length (free_walk g image).met
  pub fault : report.fault ≡ (free_walk g image).fault
  pub cache_count : report.cache_count ≡ word image (cache_head g.edition)
  pub cache : report.cache.items ≡ cached_numbers g.edition image
  pub free_inodes : report.free_inodes ≡ free_inode_count g image
  pub flags : report.flags ≡ flag_bytes g.edition image
  pub time : report.time ≡ long image (time_place g.edition)

-- the report on the super-block, or the reason why there is none (this project)
abbrev pub InspectsSuper : Edition → List ℕ → Result SuperReport InspectFault → Type 0
InspectsSuper edition image (Ok report) = (g : Geometry) × (geometry_read edition image ≡ Ok g) × IsSuperReport g image report
InspectsSuper edition image (Err (Unsound fault)) = geometry_read edition image ≡ Err fault
InspectsSuper edition image (Err NoMemory) = IsOk (geometry_read edition image)
InspectsSuper edition image (Err NoEntry) = ⊥
