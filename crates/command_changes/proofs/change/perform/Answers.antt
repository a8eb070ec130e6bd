use Rattle.command_faults.proofs.Concluded.{among}
use Rattle.command_changes.proofs.ChangedPermissions.{chmod_leaves}
use Rattle.command_changes.proofs.Imported.{archive_among}
use Rattle.command_changes.proofs.MadeDirectories.{directories_leave, directory_leaves}
use Rattle.command_changes.proofs.MadeSpecials.{special_leaves}
use Rattle.command_changes.proofs.MovedNames.{move_leaves}
use Rattle.command_changes.proofs.PutBytes.{put_leaves}
use Rattle.command_changes.proofs.TouchedNodes.{touch_leaves}
use Rattle.command_changes.proofs.TracedCalls.{calls_among, leaving_among, removal_among}
use Rattle.command_changes.proofs.change.perform.Goals as goal
use Rattle.command_changes.proofs.change.perform.Goals.{in-Put, in-RmAll, in-MkdirAll, in-Mv, in-Touch, in-Rm, in-Rmdir, in-Mkdir, in-Ln, in-Chmod, in-Chown, in-Mknod}
use Rattle.std.proofs.Common.{refl, sym}

pub returns-in-Import : goal.returns-in-Import
returns-in-Import c = rw c.in-Import.is
    (archive_among _ _ _ _ _ _ _ _ c.import_archive.ensures.made c.import_archive.ensures.traced c.import_archive.ensures.lines c.import_archive.ensures.fault)

pub returns-in-Salvage : goal.returns-in-Salvage
returns-in-Salvage c = rw c.in-Salvage.is
    (among _ _ _ _ _ refl c.salvage.ensures.salvaged c.salvage.ensures.fault c.unremarked.ensures)

pub returns-in-Boot : goal.returns-in-Boot
returns-in-Boot c = rw c.in-Boot.is
    (rw (sym c.deref.ensures.value) (among _ _ _ _ _ refl c.boot.ensures.booted c.boot.ensures.fault c.unremarked-in-Boot.ensures))

pub returns : goal.returns
returns c = elim c.match-change.branch [
  | in-Put w ↦
      rw w.in-Put.is (leaving_among _ _ _ _ _ _ _ _ w.made-is (λ bytes makes. put_leaves _ _ bytes _ _ _ _ _ makes) w.put-made.ensures.made w.put-made.ensures.fault (c.traced.ensures.made, c.traced.ensures.memory, c.traced.ensures.fault))
  | in-RmAll w ↦ rw w.in-RmAll.is (removal_among _ _ _ _ _ _ _ _ w.made-is w.rm_all-made.ensures.removed w.rm_all-made.ensures.fault (c.traced.ensures.made, c.traced.ensures.memory, c.traced.ensures.fault))
  | in-MkdirAll w ↦
      rw w.in-MkdirAll.is (leaving_among _ _ _ _ _ _ _ _ w.made-is (λ bytes makes. directories_leave _ _ bytes _ _ _ makes) w.mkdir_all-made.ensures.made w.mkdir_all-made.ensures.fault (c.traced.ensures.made, c.traced.ensures.memory, c.traced.ensures.fault))
  | in-Mv w ↦
      rw w.in-Mv.is (leaving_among _ _ _ _ _ _ _ _ w.made-is (λ bytes makes. move_leaves _ _ bytes _ _ _ makes) w.mv-made.ensures.made w.mv-made.ensures.fault (c.traced.ensures.made, c.traced.ensures.memory, c.traced.ensures.fault))
  | in-Touch w ↦
      rw w.in-Touch.is (leaving_among _ _ _ _ _ _ _ _ w.made-is (λ bytes makes. touch_leaves _ _ bytes _ _ makes) w.touch-made.ensures.made w.touch-made.ensures.fault (c.traced.ensures.made, c.traced.ensures.memory, c.traced.ensures.fault))
  | in-Rm w ↦ rw w.in-Rm.is (calls_among _ _ _ _ _ _ _ w.made-is w.rm-made.ensures.made w.rm-made.ensures.fault (c.traced.ensures.made, c.traced.ensures.memory, c.traced.ensures.fault))
  | in-Rmdir w ↦ rw w.in-Rmdir.is (calls_among _ _ _ _ _ _ _ w.made-is w.rmdir-made.ensures.made w.rmdir-made.ensures.fault (c.traced.ensures.made, c.traced.ensures.memory, c.traced.ensures.fault))
  | in-Mkdir w ↦
      rw w.in-Mkdir.is (leaving_among _ _ _ _ _ _ _ _ w.made-is (λ bytes makes. directory_leaves _ _ bytes _ _ _ makes) w.mkdir-made.ensures.made w.mkdir-made.ensures.fault (c.traced.ensures.made, c.traced.ensures.memory, c.traced.ensures.fault))
  | in-Ln w ↦ rw w.in-Ln.is (calls_among _ _ _ _ _ _ _ w.made-is w.ln-made.ensures.made w.ln-made.ensures.fault (c.traced.ensures.made, c.traced.ensures.memory, c.traced.ensures.fault))
  | in-Chmod w ↦
      rw w.in-Chmod.is (leaving_among _ _ _ _ _ _ _ _ w.made-is (λ bytes makes. chmod_leaves _ _ bytes _ _ _ makes) w.chmod-made.ensures.made w.chmod-made.ensures.fault (c.traced.ensures.made, c.traced.ensures.memory, c.traced.ensures.fault))
  | in-Mknod w ↦
      rw w.in-Mknod.is (leaving_among _ _ _ _ _ _ _ _ w.made-is (λ bytes makes. special_leaves _ _ _ _ _ _ bytes _ makes) w.mknod-made.ensures.made w.mknod-made.ensures.fault (c.traced.ensures.made, c.traced.ensures.memory, c.traced.ensures.fault))
  | in-Chown w ↦ rw w.in-Chown.is (calls_among _ _ _ _ _ _ _ w.made-is w.chown-made.ensures.made w.chown-made.ensures.fault (c.traced.ensures.made, c.traced.ensures.memory, c.traced.ensures.fault))
]
