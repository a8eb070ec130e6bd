-- The server of a mounted volume, as contracts see it.
use Rattle.std.specs.Prelude.{◌≡◌, ◌⊎◌, ◌≤◌, ℕ, ◌-◌, true, List, length, Option, Result, Ok}
use Rattle.vol_layout.specs.Edition.{constants}
use Rattle.vol_layout.specs.Geometry.{geometry_of}
use Rattle.vol_dir.specs.declared.refusal.Refusal.{Refusal}
use Rattle.vol_volume.specs.Volume.{Mounted}
use Rattle.vol_volume.specs.declared.calls.Call.{Call}
use Rattle.vol_batch.specs.Batch.{AreMade, AreStopped}
use Rattle.vol_mounted.specs.Orphans.{KeptFile, held_by}
use Rattle.vol_mounted.specs.Plans.{Sight}
use Rattle.vol_mounted.specs.declared.known.KnownNode.{KnownNode}
use Rattle.vol_mounted.specs.declared.orphan.Limits.{Limits}
use Rattle.vol_mounted.specs.declared.owner.Owner.{Owner}
use Rattle.vol_mounted.specs.declared.refusal.MountedRefusal.{MountedRefusal}
use Rattle.vol_mounted.specs.declared.refusal.MountedRefusal.TheVariants as mounted
use Rattle.vol_mounted.specs.declared.server.MountedServer.{MountedServer}

-- the volume that is served (this project)
abbrev pub volume_in : MountedServer → Mounted
volume_in server = server.volume

-- the user that all nodes are shown as, if any (this project)
abbrev pub owner_in : MountedServer → Option Owner
owner_in server = server.owner

-- the records of the i-numbers (this project)
abbrev pub nodes_in : MountedServer → List KnownNode
nodes_in server = server.nodes

-- the files without a name (this project)
abbrev pub files_in : MountedServer → List KeptFile
files_in server = server.orphans.files.items

-- the number of bytes of the files without a name (this project)
abbrev pub held_in : MountedServer → ℕ
held_in server = held_by (files_in server)

-- the files without a name take at most as many bytes as the image (this project)
abbrev pub IsBounded : MountedServer → Type 0
IsBounded server = held_in server ≤ length server.volume.image

-- the number of further bytes that files without a name can take (this project)
abbrev pub spare_in : MountedServer → ℕ
spare_in server = length server.volume.image - held_in server

-- the limits of a file without a name (manual section 5, file system; the bytes are this project's)
abbrev pub limits_in : MountedServer → Limits
limits_in server = record { greatest = (constants server.volume.edition).greatest; spare = spare_in server }

-- the image and the mark that it was changed are as before, or the image is marked as changed (this project)
abbrev pub IsNoted : MountedServer → MountedServer → Type 0
IsNoted old new = ((new.volume.image ≡ old.volume.image) × (new.is_changed ≡ old.is_changed)) ⊎ (new.is_changed ≡ true)

-- the properties of a server that every operation preserves, whether it is refused or not (this project)
pub record Kept (old new : MountedServer) : Type 0 where
  pub owner : new.owner ≡ old.owner
  pub weight : new.weight ≡ old.weight
  pub noted : IsNoted old new
  pub bounded : IsBounded old → IsBounded new

-- the values of a server that calls and replies depend on, at a given time (this project)
abbrev pub sight_at : MountedServer → ℕ → Sight
sight_at server now = record {
  geometry = geometry_of server.volume.edition server.volume.image;
  image = server.volume.image;
  nodes = server.nodes;
  owner = server.owner;
  now = now;
}

-- some calls were accepted in order, and the next one was refused with this refusal (this project)
abbrev pub IsStopped : Mounted → List Call → Mounted → MountedRefusal → Type 0
IsStopped old calls new refusal =
    (why : Refusal) × (stopped : Call) × (refusal ≡ mounted.Call why) × AreStopped old calls new why stopped

-- all the calls that were planned were accepted (this project)
abbrev pub Made : Mounted → Result (List Call) MountedRefusal → Mounted → Type 0
Made old planned new = (calls : List Call) × (planned ≡ Ok calls) × AreMade old calls new
