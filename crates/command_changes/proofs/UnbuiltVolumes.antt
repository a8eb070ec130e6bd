-- The reasons not to build the volume of a list: `mkfs` makes none, or the members aren't imported.
use Rattle.std.proofs.Common.{◌≡◌, ◌↔◌, ℕ, List, Err, IsErrOf, Option, Result, false, inl, inr, subst, true}
use Rattle.vol_layout.specs.Ids.{is_bad_id}
use Rattle.vol_volume.specs.Volume.{reads_as}
use Rattle.vol_import.specs.Make.{calls_to_make}
use Rattle.vol_mkfs.specs.Mkfs.{is_size}
use Rattle.vol_mkfs.specs.declared.blank.MkfsFault.{MkfsFault}
use Rattle.vol_mkfs.specs.declared.blank.MkfsFault.TheVariants as blanks
use Rattle.pack_lists.specs.Archive.{archive_bytes}
use Rattle.pack_lists.specs.declared.members.ListedOwner.{ListedOwner}
use Rattle.pack_lists.specs.declared.members.ListedVolume.{ListedVolume}
use Rattle.pack_lists.specs.declared.members.RootMarks.{RootMarks}
use Rattle.command_faults.specs.declared.fault.Fault.{Fault}
use Rattle.command_changes.specs.Build.{IsBegun, IsUnbuilt, IsUnmade, Members, root_path}
use Rattle.command_changes.specs.Import.{IsUnimported}
use Rattle.command_changes.specs.Mkfs.{unmade}

-- if `mkfs` makes no volume for a list, no volume has its sizes, or none of the edition has a root of this owner, or memory ran out
pub not_made : {T : Type 0} (volume : ListedVolume) (owner : ListedOwner) (why : MkfsFault) (fault : Fault) (made : Result T MkfsFault) → made ≡ Err why
    → (IsErrOf made blanks.Bounds ↔ (is_size volume.sizes.edition volume.sizes.blocks volume.sizes.list_blocks ≡ false))
    → (IsErrOf made blanks.BadId ↔ ((is_size volume.sizes.edition volume.sizes.blocks volume.sizes.list_blocks ≡ true)
    × (is_bad_id volume.sizes.edition owner.uid owner.gid ≡ true)))
    → fault ≡ unmade why → IsUnmade volume owner fault
not_made volume owner blanks.Bounds fault made is bounds bad told = inl (bounds.0 is, told)
not_made volume owner blanks.BadId fault made is bounds bad told = let why = bad.0 is in inr (inl (why.0, why.1, told))
not_made volume owner blanks.NoMemory fault made is bounds bad told = inr (inr told)

-- if the archive isn't imported, that is a reason not to build the volume
pub unfilled : (volume : ListedVolume) (root : Option RootMarks) (program : Option (List ℕ)) (members : Members) (begun archive : List ℕ) (fault : Fault)
    → IsBegun volume root program begun → archive ≡ archive_bytes members
    → IsUnimported volume.sizes.edition begun (calls_to_make (reads_as volume.sizes.edition begun).tree archive root_path volume.time) fault
    → IsUnbuilt volume root program members fault
unfilled volume root program members begun archive fault is same why =
    inr (
      begun,
      is,
      subst (λ (a : List ℕ). IsUnimported volume.sizes.edition begun
          (calls_to_make (reads_as volume.sizes.edition begun).tree a root_path volume.time) fault) same why,
    )
