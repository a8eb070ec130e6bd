-- An accepted call: the nodes at the ends of its paths, and its result.
use Rattle.std.specs.Prelude.{◌≡◌, ℕ, false, List, Option, None, Some, Ok}
use Rattle.vol_dir.specs.Entries.{IsDirectory, IsInUse, slots}
use Rattle.vol_dir.specs.Names.{get}
use Rattle.vol_dir.specs.Search.{new_slot, slot_named}
use Rattle.vol_dir.specs.Tree.{tree, shapes, state}
use Rattle.vol_dir.specs.Walk.{IsComponent, has_zero, walk, walk_parent}
use Rattle.vol_change.specs.Nodes.{names_at}
use Rattle.vol_change.specs.Ready.{entry_need, free_in}
use Rattle.vol_volume.specs.Step.{moment_of}
use Rattle.vol_volume.specs.Volume.{Performs}
use Rattle.vol_dir.specs.declared.cred.Cred.{Cred}
use Rattle.vol_dir.specs.declared.entries.Entry.{Entry}
use Rattle.vol_layout.specs.declared.geometry.Geometry.{Geometry}
use Rattle.vol_volume.specs.declared.calls.Call.{Call}
use Rattle.vol_volume.specs.declared.calls.Call.TheVariants.{Create, Mkdir, Link, Unlink, Rmdir, Write, Truncate, Chmod, Chown, Times, Mknod}
use Rattle.vol_volume.specs.declared.calls.Done.{Done}
use Rattle.vol_volume.specs.declared.calls.Done.TheVariants.{Made, Wrote, Plain}
use Rattle.vol_volume.specs.declared.calls.Caller.{Caller}
use Rattle.vol_volume.specs.declared.checked_calls.found.EntryPlace.{EntryPlace}

-- a path leads to directory d and the last name `name` (Lions on namei)
pub record LeadsToParent (geometry : Geometry) (image : List ℕ) (cred : Cred) (path : List ℕ) (d : ℕ) (name : List ℕ) : Type 0 where
  pub walked : walk_parent (tree geometry image) cred path ≡ Some (Ok (d, name))
  pub directory : IsDirectory geometry image d
  pub component : IsComponent name
  pub text : has_zero name ≡ false

-- a path leads to node i (Lions on namei)
pub record LeadsToNode (geometry : Geometry) (image : List ℕ) (cred : Cred) (path : List ℕ) (i : ℕ) : Type 0 where
  pub walked : walk (tree geometry image) cred path ≡ Ok i
  pub used : IsInUse geometry image i

-- the slot for a new entry of directory d, and the number of blocks that the entry needs (Lions on wdir)
pub record IsEntryPlace (geometry : Geometry) (image : List ℕ) (d : ℕ) (place : EntryPlace) : Type 0 where
  pub slot : place.slot ≡ new_slot (shapes geometry image d).slots
  pub needed : place.needed ≡ entry_need (state geometry image) d

-- the entry of a name in directory d (Lions on namei)
pub record IsEntry (geometry : Geometry) (image : List ℕ) (d : ℕ) (name : List ℕ) (entry : Entry) : Type 0 where
  pub slot : entry.slot ≡ slot_named name (slots geometry image d)
  pub named : get (names_at (tree geometry image) d) name ≡ Some entry.inode
  pub used : IsInUse geometry image entry.inode

-- the user and group of a call (this project)
abbrev pub cred_of : Call → Cred
cred_of (Create cred now path perm) = cred
cred_of (Mkdir cred now path perm) = cred
cred_of (Link cred now source target) = cred
cred_of (Unlink cred now path) = cred
cred_of (Rmdir cred now path) = cred
cred_of (Write cred now path offset bytes) = cred
cred_of (Truncate cred now path size) = cred
cred_of (Chmod cred now path perm) = cred
cred_of (Chown cred now path uid gid) = cred
cred_of (Times cred now path atime mtime) = cred
cred_of (Mknod cred now path perm device) = cred

-- the user and the time of a call (this project)
abbrev pub caller_of : Call → Caller
caller_of call = record { cred = cred_of call; moment = moment_of call }

-- the first path of a call (this project)
abbrev pub path_of : Call → List ℕ
path_of (Create cred now path perm) = path
path_of (Mkdir cred now path perm) = path
path_of (Link cred now source target) = source
path_of (Unlink cred now path) = path
path_of (Rmdir cred now path) = path
path_of (Write cred now path offset bytes) = path
path_of (Truncate cred now path size) = path
path_of (Chmod cred now path perm) = path
path_of (Chown cred now path uid gid) = path
path_of (Times cred now path atime mtime) = path
path_of (Mknod cred now path perm device) = path

-- the i-number in a recorded answer, if there is one (this project)
abbrev pub recorded_number : Option Done → Option ℕ
recorded_number None = None
recorded_number (Some (Made i)) = Some i
recorded_number (Some (Wrote n)) = None
recorded_number (Some Plain) = None

-- a call was made with this answer, and `free` is now the number of free blocks (this project)
pub record IsPerformed (geometry : Geometry) (old new : List ℕ) (call : Call) (done : Done) (free : ℕ) : Type 0 where
  pub performed : Performs geometry old new call done
  pub counted : free ≡ free_in (state geometry new)
