-- The place of a resized volume in its file.
use Rattle.std.specs.Prelude.{◌⊎◌, ◌≤◌, ◌==◌, ◌&&◌, ◌*◌, ℕ, Bool, nat_le, max, List, Option, None}
use Rattle.host_files.specs.declared.image_file.Stamp.{Stamp}
use Rattle.pack_files.specs.OtherVolumes.{FindsOther}
use Rattle.pack_files.specs.PackFiles.{is_regular}
use Rattle.pack_files.specs.declared.other_volumes.Growth.{Growth}

-- a volume gets no further blocks; or the pack in a file was searched, and none of these is another volume's (this project)
abbrev pub IsAlone : {F : Type 0} → (F → Option (List ℕ)) → (F → Stamp → Type 0) → Growth → Type 0
IsAlone remaining had growth = (growth.gets ≤ growth.had) ⊎ FindsOther remaining had growth None

-- true if a regular file with this stamp has nothing but the volume, before or after it is resized (this project)
abbrev pub has_only : Stamp → Growth → Bool
has_only stamp growth = (growth.at == 0) && (is_regular stamp.kind && nat_le stamp.size (512 * max growth.had growth.gets))
