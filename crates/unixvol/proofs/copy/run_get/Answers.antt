use Rattle.std.proofs.Common.{Ok, Err, ap, inl, inr, refl}
use Rattle.std.proofs.KnownBytes.{Keeps-refl}
use Rattle.command_faults.specs.Faults.{line_after}
use Rattle.host_files.specs.Save.{IsTaken}
use Rattle.unixvol.specs.FileFaults.{run_status}
use Rattle.unixvol.specs.Runs.{IsUnread}
use Rattle.unixvol.proofs.Concluded.{ends_got, ends_unread}
use Rattle.unixvol.proofs.Copied.{saved_read}
use Rattle.unixvol.proofs.FileFaults.{stopped}
use Rattle.unixvol.proofs.copy.run_get.Goals as goal

pub returns-in_err-image-clause-runs : goal.returns-in_err-image-clause-runs
returns-in_err-image-clause-runs g c known failed =
    inl (stopped (IsUnread g.R.File.Read.remaining) known failed _ _ c.from_residual.ensures.1 c.in_err-image.ensures.fault)

pub returns-in-Ok-clause-runs : goal.returns-in-Ok-clause-runs
returns-in-Ok-clause-runs g c known failed =
    let files = c.in-Ok.files in
    inr (
      c.in_ok-image.image.items,
      Ok files,
      c.in_ok-image.ensures.given,
      c.in-Ok.ensures,
      Keeps-refl known,
      refl,
      saved_read (IsTaken g.R.File.Write.contents) _ files _ _ _ c.deref.ensures.value c.after_saving.ensures.status c.save_files-saved.ensures.saved
          c.save_files-saved.ensures.fault (ap line_after c.after_saving.ensures.fault),
    )

pub returns-in-Err-clause-runs : goal.returns-in-Err-clause-runs
returns-in-Err-clause-runs g c known failed =
    let fault = c.in-Err.fault in
    inr (
      c.in_ok-image.image.items,
      Err fault,
      c.in_ok-image.ensures.given,
      c.in-Err.ensures,
      Keeps-refl known,
      refl,
      (c.from.ensures.0, ap line_after c.from.ensures.1),
    )

pub returns-in_err-image-clause-ends : goal.returns-in_err-image-clause-ends
returns-in_err-image-clause-ends g c known failed =
    let done = stopped (IsUnread g.R.File.Read.remaining) known failed _ _ c.from_residual.ensures.1 c.in_err-image.ensures.fault in
    ends_unread g.R.File.Read.remaining _ _ done.0 done.1

pub returns-in-Ok-clause-ends : goal.returns-in-Ok-clause-ends
returns-in-Ok-clause-ends g c known failed =
    let taken = IsTaken g.R.File.Write.contents in
    let files = c.in-Ok.files in
    ends_got _ taken (Ok files) (run_status c.after_saving.result)
    (saved_read taken _ files _ _ _ c.deref.ensures.value c.after_saving.ensures.status c.save_files-saved.ensures.saved c.save_files-saved.ensures.fault
    (ap line_after c.after_saving.ensures.fault)) (Keeps-refl known) refl

pub returns-in-Err-clause-ends : goal.returns-in-Err-clause-ends
returns-in-Err-clause-ends g c known failed =
    ends_got _ (IsTaken g.R.File.Write.contents) (Err c.in-Err.fault) c.from.result.status
    (c.from.ensures.0, ap line_after c.from.ensures.1) (Keeps-refl known) refl
