-- The outcome of `sync`, with what it removes; and of `put -r`, which removes nothing.
use Rattle.std.proofs.Common.{◌≡◌, ◌∙◌, ℕ, List, inl, inr, sym, ap, subst}
use Rattle.vol_dir.specs.Tree.{Tree}
use Rattle.vol_judge.specs.Sound.{IsSound}
use Rattle.vol_archive.specs.declared.met_entries.MetEntry.{MetEntry}
use Rattle.vol_import.specs.Make.{Imports, IsReason, IsStop, IsUnmounted, told, unplanned}
use Rattle.vol_import.specs.declared.import_plan.PlanFault.{PlanFault}
use Rattle.vol_import.specs.declared.make.ImportFault.{ImportFault}
use Rattle.vol_import.specs.declared.make.ImportFault.TheVariants as faults
use Rattle.vol_import.proofs.ImportFaults.{no_volume}
use Rattle.vol_layout.specs.declared.edition.Edition.{Edition}
use Rattle.vol_volume.specs.Volume.{Mounted, mounted, reads_as}
use Rattle.vol_volume.specs.declared.volume.MountFault.TheVariants as mounts
use Rattle.command_faults.specs.declared.fault.Fault.{Fault}
use Rattle.command_changes.specs.Extras.{AreMet, IsPlanned, IsStopped, IsSynced, IsSyncedVolume, IsUnplanned, IsUnsynced, calls_after}
use Rattle.command_changes.specs.Import.{TellsFault}
use Rattle.command_changes.specs.Sync.{calls_to_sync}
use Rattle.command_changes.specs.Traced.{ImportsVolume}
use Rattle.command_changes.specs.declared.extras.Extra.{Extra}
use Rattle.command_changes.specs.declared.extras.Extra.TheVariants as extras
use Rattle.command_changes.specs.declared.sync.SyncPlan.{SyncPlan}
use Rattle.command_changes.specs.declared.sync.SyncedImage.{SyncedImage}
use Rattle.command_changes.specs.declared.sync.SyncedVolume.{SyncedVolume}
use Rattle.command_changes.specs.declared.sync.Syncing.{Syncing}
use Rattle.command_changes.specs.declared.sync.TreeMember.{TreeMember}
use Rattle.command_changes.proofs.PutFiles.{no_calls, not_put}

-- running out of memory is always a reason
pub out_of_memory : (edition : Edition) (image : List ℕ) (fault : ImportFault) → fault ≡ faults.NoMemory → IsUnmounted edition image fault
unfolding IsUnmounted
out_of_memory edition image fault is = (mounts.NoMemory, is, tt)

-- the entries met in a mounted volume are those in its image
pub met_here : (edition : Edition) (image path : List ℕ) (extra : Extra) (founds : List MetEntry) (old : Mounted) → old ≡ mounted edition image
    → AreMet old.edition old.image path extra founds → AreMet edition image path extra founds
met_here edition image path extra founds old is met = subst (λ (v : Mounted). AreMet v.edition v.image path extra founds) is met

-- if there is no plan for a mounted volume, this is a reason not to change its image
pub not_planned : (edition : Edition) (image : List ℕ) (syncing : Syncing) (extra : Extra) (members : List TreeMember) (old : Mounted) (why : PlanFault) (fault : ImportFault)
    → IsSound edition image → old ≡ mounted edition image → IsUnplanned old.edition old.image syncing extra members why → fault ≡ unplanned why
    → IsStopped edition image syncing extra members fault
not_planned edition image syncing extra members old why fault sound is (inl memory) same =
    inl (out_of_memory edition image fault (same ∙ ap (λ (why : PlanFault). unplanned why) memory))
not_planned edition image syncing extra members old why fault sound is (inr (founds, met, tells)) same =
    inr (
      founds,
      met_here edition image syncing.directory.now extra founds old is met,
      no_calls edition image (λ (tree : Tree). calls_after tree syncing members founds) old why fault sound is tells same,
    )

-- if a call of the plan is refused, this is a reason not to change the image
pub not_synced : (edition : Edition) (image : List ℕ) (syncing : Syncing) (extra : Extra) (members : List TreeMember) (old new : Mounted) (plan : SyncPlan) (fault : ImportFault)
    → IsSound edition image → old ≡ mounted edition image → IsPlanned old.edition old.image syncing extra members plan → IsStop old plan.calls.items new fault
    → IsStopped edition image syncing extra members fault
not_synced edition image syncing extra members old new plan fault sound is planned stop =
    inr (
      planned.founds,
      met_here edition image syncing.directory.now extra planned.founds old is planned.met,
      not_put edition image (λ (tree : Tree). calls_after tree syncing members planned.founds) old new plan.calls.items fault sound is planned.calls stop,
    )

-- the bytes of a synced volume are a synced image
pub image_synced : (edition : Edition) (image : List ℕ) (syncing : Syncing) (extra : Extra) (members : List TreeMember) (synced : SyncedVolume) (made : SyncedImage)
    → IsSyncedVolume edition image syncing extra members synced → made.bytes.items ≡ synced.volume.image → made.lines ≡ synced.lines → made.is_same ≡ synced.is_same
    → IsSynced edition image syncing extra members made
image_synced edition image syncing extra members synced made is bytes lines same =
    let calls = calls_after (reads_as edition image).tree syncing members is.founds in
    record {
      founds = is.founds;
      met = is.met;
      made = subst (Imports edition image (told calls)) (sym bytes) is.made.0;
      lines = rw lines is.lines;
      same = rw same is.same;
    }

-- if a fault is a reason, the fault that is reported is one too
pub unsynced : (edition : Edition) (image : List ℕ) (syncing : Syncing) (extra : Extra) (members : List TreeMember) (why : ImportFault) (fault : Fault)
    → IsStopped edition image syncing extra members why → TellsFault why fault → IsUnsynced edition image syncing extra members fault
unsynced edition image syncing extra members why fault reason (told, inl is, tells) =
    (told, subst (IsStopped edition image syncing extra members) (sym is) reason, tells)
unsynced edition image syncing extra members why fault reason (told, inr is, tells) = (told, inl (out_of_memory edition image told is), tells)

-- if nothing is removed, the calls are those for the tree
pub kept_made : (edition : Edition) (image : List ℕ) (syncing : Syncing) (members : List TreeMember) (synced : SyncedVolume)
    → IsSyncedVolume edition image syncing extras.Keep members synced
    → ImportsVolume edition image (told (calls_to_sync (reads_as edition image).tree syncing members)) synced.volume
kept_made edition image syncing members synced is =
    subst (λ (founds : List MetEntry). ImportsVolume edition image (told (calls_after (reads_as edition image).tree syncing members founds)) synced.volume) is.met is.made

-- and so is a reason not to make them
pub kept_reason : (edition : Edition) (image : List ℕ) (syncing : Syncing) (members : List TreeMember) (why : ImportFault)
    → IsStopped edition image syncing extras.Keep members why
    → IsReason edition image (told (calls_to_sync (reads_as edition image).tree syncing members)) why
kept_reason edition image syncing members why (inl unmounted) =
    no_volume edition image (told (calls_to_sync (reads_as edition image).tree syncing members)) why unmounted
kept_reason edition image syncing members why (inr (founds, met, reason)) =
    subst (λ (founds : List MetEntry). IsReason edition image (told (calls_after (reads_as edition image).tree syncing members founds)) why) met reason
