-- The volumes in the way of one that grows inside a pack.
use Rattle.std.specs.Prelude.{◌≡◌, ℕ, ◌+◌, ◌==◌, ◌&&◌, nat_lt, not, Bool, false, List, Option}
use Rattle.std.specs.List.{find}
use Rattle.host_files.specs.declared.image_file.Stamp.{Stamp}
use Rattle.vol_identify.specs.Packs.{IsScanned}
use Rattle.vol_identify.specs.declared.pack_scan.Part.{Part}
use Rattle.vol_identify.specs.declared.pack_scan.Part.TheVariants.{Volume, Between}
use Rattle.pack_files.specs.PackFiles.{blocks_in}
use Rattle.pack_files.specs.declared.other_volumes.Growth.{Growth}

-- true if a part of a pack is another volume than the one that grows, and has one of the blocks that this gets (this project)
abbrev pub is_in_way : Growth → Part → Bool
is_in_way growth (Volume block volume) =
    not (block == growth.at) && (nat_lt block (growth.at + growth.gets) && nat_lt (growth.at + growth.had) (block + volume.blocks))
is_in_way growth (Between block blocks zeros) = false

-- the whole pack in a file was read, with the blocks that its size has, and this is its first volume in the way of a growth (this project)
abbrev pub FindsOther : {F : Type 0} → (F → Option (List ℕ)) → (F → Stamp → Type 0) → Growth → Option Part → Type 0
FindsOther {F} remaining had growth found =
    (old : F) × (new : F) × (stamp : Stamp) × (parts : List Part) × had old stamp × IsScanned (blocks_in stamp.size) (remaining old) (remaining new) parts
    × (found ≡ find (is_in_way growth) parts)
