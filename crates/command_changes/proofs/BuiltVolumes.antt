-- A volume that was built has the members of its list, if an import reads them back, and its root.
use Rattle.std.proofs.Common.{◌≡◌, ◌∙◌, ℕ, ◌%◌, List, None, Ok, Option, Result, Some, ap, subst}
use Rattle.std.specs.Int.Bits.{and_zero_r, bit_or, or_zero_l}
use Rattle.pack_lists.specs.Laws.{ListsAreReadBack}
use Rattle.pack_lists.specs.declared.members.ListedVolume.{ListedVolume}
use Rattle.pack_lists.specs.declared.members.RootMarks.{RootMarks}
use Rattle.vol_dir.specs.Tree.{Tree}
use Rattle.vol_import.specs.MadeMembers.{HasArchive, KeepsNodes}
use Rattle.vol_import.specs.declared.archive_members.Member.{Member}
use Rattle.vol_import.specs.declared.faults.ArchiveFault.{ArchiveFault}
use Rattle.vol_volume.specs.Volume.{reads_as}
use Rattle.command_terms.specs.Permissions.{change_to, changed_permissions}
use Rattle.command_changes.specs.Build.{IsBegun, root_path}
use Rattle.command_changes.specs.Laws.{HasRoot, VolumesHaveTheirLists}
use Rattle.command_changes.proofs.ChangedPermissions.{chmod_leaves}

-- a change to some permissions leaves these
set_to : (permissions old : ℕ) → changed_permissions (change_to permissions) old ≡ permissions
unfolding changed_permissions
set_to permissions old = ap (λ (b : ℕ). bit_or b permissions) (and_zero_r old) ∙ or_zero_l permissions

-- before its members are imported, the root has the permissions of the list
begun_root : (volume : ListedVolume) (root : Option RootMarks) (program : Option (List ℕ)) (begun : List ℕ) → IsBegun volume root program begun
    → HasRoot (reads_as volume.sizes.edition begun).tree root
begun_root volume None program begun is = tt
begun_root volume (Some root) program begun is =
    let has = chmod_leaves volume.sizes.edition is.0 begun root_path (change_to root.permissions) volume.time is.2 in
    (has.after, has.is, has.changed ∙ ap (λ p. p % 4096) (set_to root.permissions has.before.permissions))

-- a root keeps its permissions
kept_root : (old new : Tree) (root : Option RootMarks) → KeepsNodes old new → HasRoot old root → HasRoot new root
kept_root old new None keeps has = tt
kept_root old new (Some root) keeps has = let kept = keeps root_path has.0 has.1 in (kept.stat, kept.found, kept.permissions ∙ has.2)

-- an import keeps the nodes that were there
keeps : (old new : Tree) (base : List ℕ) (now : ℕ) (all : List Member) → HasArchive old new base now (Ok all) → KeepsNodes old new
unfolding HasArchive
keeps old new base now all has = has.1

-- the members that an import reads are those of the list
pub has_listed : ListsAreReadBack → VolumesHaveTheirLists
has_listed back volume root program members bytes are built =
    let has =
    subst (λ (found : Result (List Member) ArchiveFault).
    HasArchive (reads_as volume.sizes.edition built.0).tree (reads_as volume.sizes.edition bytes).tree root_path volume.time found) (back members are) built.2.1
    in (
      built.0,
      built.1,
      has,
      kept_root (reads_as volume.sizes.edition built.0).tree (reads_as volume.sizes.edition bytes).tree root (keeps _ _ root_path volume.time _ has)
          (begun_root volume root program built.0 built.1),
    )
