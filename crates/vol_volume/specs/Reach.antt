-- The effects of an accepted call on the disk: the files that it may change, the bytes that it keeps, and its change of the free list.
use Rattle.std.specs.Prelude.{ℕ, nat_le, if◌then◌else◌, List, [], ◌∷◌, ◌++◌, length, drop, ◌+◌, ◌*◌, IfSome, IfOk, Option, None, Some, Result, Ok, Err}
use Rattle.vol_layout.specs.declared.geometry.Geometry.{Geometry}
use Rattle.vol_file.specs.Changes.{blocks_past}
use Rattle.vol_file.specs.Shape.{touched}
use Rattle.vol_dir.specs.EntryEdits.{slot_bytes}
use Rattle.vol_dir.specs.Entries.{slots}
use Rattle.vol_dir.specs.Search.{new_slot, slot_named}
use Rattle.vol_dir.specs.Tree.{tree, shapes, state}
use Rattle.vol_dir.specs.Walk.{walk, walk_parent}
use Rattle.vol_change.specs.Alone.{ChangesInode}
use Rattle.vol_change.specs.Changed.{FreeBecomes, KeepsFilesBut, KeepsStored, PutsInBody, as_before, blocks_freed}
use Rattle.vol_change.specs.Nodes.{node_at, number_of_name}
use Rattle.vol_change.specs.Ready.{entry_need}
use Rattle.vol_change.specs.Shapes.{need_in}
use Rattle.vol_volume.specs.Step.{made_number}
use Rattle.vol_dir.specs.declared.refusal.Refusal.{Refusal}
use Rattle.vol_volume.specs.declared.calls.Call.{Call}
use Rattle.vol_volume.specs.declared.calls.Call.TheVariants.{Create, Mkdir, Link, Unlink, Rmdir, Write, Truncate, Chmod, Chown, Times, Mknod}
use Rattle.vol_volume.specs.declared.calls.Done.{Done}

-- the files that a call may change, at most two, by i-number; its change of the free list, whose first block is allocated next; and, if the call
-- changes a slot of the directory `file`, the slot and its new bytes (this project)
pub record Reach : Type 0 where
  pub file : ℕ
  pub other : ℕ
  pub listed : List ℕ → List ℕ
  pub put : Option (ℕ × List ℕ)

-- the reach of a call that changes no file; no file has i-number 0 (this project)
abbrev pub no_reach : Reach
no_reach = record { file = 0; other = 0; listed = as_before; put = None }

-- the reach of a call that changes at most two files and allocates the next `count` blocks (Lions on alloc)
abbrev pub takes : ℕ → ℕ → ℕ → Reach
takes file other count = record { file = file; other = other; listed = drop count; put = None }

-- the reach of a call that changes at most two files and frees blocks, the first of which is allocated next (Lions on free)
abbrev pub gives : ℕ → ℕ → List ℕ → Reach
gives file other blocks = record { file = file; other = other; listed = λ free. blocks ++ free; put = None }

-- a reach that also changes a slot of the directory, starting at its first byte (manual section 5, directories)
abbrev pub with_slot : ℕ → List ℕ → Reach → Reach
with_slot slot bytes reach = record { file = reach.file; other = reach.other; listed = reach.listed; put = Some (slot, bytes) }

-- a reach that also puts an entry for i-number i into directory d (Lions on wdir)
abbrev pub with_entry : Geometry → List ℕ → ℕ → List ℕ → ℕ → Reach → Reach
with_entry geometry image d name i = with_slot (new_slot (shapes geometry image d).slots) (slot_bytes name i)

-- a reach that also clears the i-number in the slot of a name in directory d; the bytes of the name stay (Lions on unlink)
abbrev pub without_entry : Geometry → List ℕ → ℕ → List ℕ → Reach → Reach
without_entry geometry image d name = with_slot (slot_named name (slots geometry image d)) (0 ∷ 0 ∷ [])

-- the reach of a call on the node at the end of a walk; if the walk is refused, no file changes (this project)
abbrev pub reach_of_node : Result ℕ Refusal → (ℕ → Reach) → Reach
reach_of_node (Err refusal) reach = no_reach
reach_of_node (Ok i) reach = reach i

-- the reach of a call on the parent and the name at the end of a walk; if the walk is refused, no file changes (this project)
abbrev pub reach_of_parent : Option (Result (ℕ × List ℕ) Refusal) → (ℕ → List ℕ → Reach) → Reach
reach_of_parent None reach = no_reach
reach_of_parent (Some (Err refusal)) reach = no_reach
reach_of_parent (Some (Ok found)) reach = reach found.0 found.1

-- the reach if node i loses a name in directory d, and its blocks if that was its last name (Lions on unlink, iput)
abbrev pub unlinked : Geometry → List ℕ → ℕ → ℕ → Reach
unlinked geometry image d i =
    if nat_le (node_at (tree geometry image) i).links 1 then gives d i (blocks_freed geometry image i)
    else record { file = d; other = d; listed = as_before; put = None }

-- the reach if directory i loses its name in directory d, and its blocks (rmdir)
abbrev pub removed : Geometry → List ℕ → ℕ → ℕ → Reach
removed geometry image d i = gives d i (blocks_freed geometry image i)

-- the reach of each call (Lions; mkdir, rmdir, and chmod, chown and utime, section 2 of the manual)
unfoldable pub reached_by : Geometry → List ℕ → Call → Done → Reach
reached_by geometry image (Create cred now path perm) done =
    reach_of_parent (walk_parent (tree geometry image) cred path)
    (λ d name. with_entry geometry image d name (made_number done) (takes d (made_number done) (entry_need (state geometry image) d)))
reached_by geometry image (Mkdir cred now path perm) done =
    reach_of_parent (walk_parent (tree geometry image) cred path)
    (λ d name. with_entry geometry image d name (made_number done) (takes d (made_number done) (entry_need (state geometry image) d + 1)))
reached_by geometry image (Link cred now source target) done =
    reach_of_node (walk (tree geometry image) cred source)
    (λ i. reach_of_parent (walk_parent (tree geometry image) cred target)
    (λ d name. with_entry geometry image d name i (takes d d (entry_need (state geometry image) d))))
reached_by geometry image (Unlink cred now path) done =
    reach_of_parent (walk_parent (tree geometry image) cred path)
    (λ d name. without_entry geometry image d name (unlinked geometry image d (number_of_name (tree geometry image) d name)))
reached_by geometry image (Rmdir cred now path) done =
    reach_of_parent (walk_parent (tree geometry image) cred path)
    (λ d name. without_entry geometry image d name (removed geometry image d (number_of_name (tree geometry image) d name)))
reached_by geometry image (Write cred now path offset bytes) done =
    reach_of_node (walk (tree geometry image) cred path)
    (λ i. takes i i (need_in geometry.edition (shapes geometry image i) (touched offset (length bytes))))
reached_by geometry image (Truncate cred now path left) done =
    reach_of_node (walk (tree geometry image) cred path) (λ i. gives i i (blocks_past geometry image i left))
reached_by geometry image (Chmod cred now path perm) done =
    reach_of_node (walk (tree geometry image) cred path) (λ i. record { file = i; other = i; listed = as_before; put = None })
reached_by geometry image (Chown cred now path uid gid) done = no_reach
reached_by geometry image (Times cred now path atime mtime) done = no_reach
reached_by geometry image (Mknod cred now path perm device) done =
    reach_of_parent (walk_parent (tree geometry image) cred path)
    (λ d name. with_entry geometry image d name (made_number done) (takes d (made_number done) (entry_need (state geometry image) d)))

-- the other bytes that a call keeps: Chmod, Chown and Times keep all bytes except those of one i-node and of the super-block's time, and Truncate
-- keeps everything stored in the blocks that its file keeps (Lions on itrunc; chmod, chown and utime, section 2 of the manual)
unfoldable pub KeepsBytes : Geometry → List ℕ → List ℕ → Call → Type 0
KeepsBytes geometry old new (Create cred now path perm) = Unit {0}
KeepsBytes geometry old new (Mkdir cred now path perm) = Unit {0}
KeepsBytes geometry old new (Link cred now source target) = Unit {0}
KeepsBytes geometry old new (Unlink cred now path) = Unit {0}
KeepsBytes geometry old new (Rmdir cred now path) = Unit {0}
KeepsBytes geometry old new (Write cred now path offset bytes) = Unit {0}
KeepsBytes geometry old new (Truncate cred now path left) = IfOk (walk (tree geometry old) cred path) (λ i. KeepsStored geometry old new i left)
KeepsBytes geometry old new (Chmod cred now path perm) = IfOk (walk (tree geometry old) cred path) (ChangesInode geometry old new)
KeepsBytes geometry old new (Chown cred now path uid gid) = IfOk (walk (tree geometry old) cred path) (ChangesInode geometry old new)
KeepsBytes geometry old new (Times cred now path atime mtime) = IfOk (walk (tree geometry old) cred path) (ChangesInode geometry old new)
KeepsBytes geometry old new (Mknod cred now path perm device) = Unit {0}

-- an accepted call only takes the next blocks of the free list, or puts the blocks that it frees in front of it, in that order; every file outside
-- its reach keeps its content and all bytes of its blocks, even those past the file's size or after the end of a name; in a directory the call
-- changes the bytes of one slot only (this project)
pub record LeavesTheRest (geometry : Geometry) (old new : List ℕ) (call : Call) (done : Done) : Type 0 where
  pub free : FreeBecomes geometry old new (reached_by geometry old call done).listed
  pub files : KeepsFilesBut geometry old new (reached_by geometry old call done).file (reached_by geometry old call done).other
  pub slot : IfSome (reached_by geometry old call done).put
      (λ put. PutsInBody geometry old new (reached_by geometry old call done).file (16 * put.0) put.1)
  pub bytes : KeepsBytes geometry old new call
