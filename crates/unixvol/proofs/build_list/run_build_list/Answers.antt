use Rattle.std.proofs.Common.{◌≡◌, Ok, Err, ap, inl, inr, refl, subst}
use Rattle.std.proofs.KnownBytes.{Keeps-refl}
use Rattle.command_copies.specs.Lists.{ListsVolume}
use Rattle.command_faults.specs.Faults.{line_after}
use Rattle.host_files.specs.Save.{IsTaken}
use Rattle.unixvol.specs.FileFaults.{run_status}
use Rattle.unixvol.specs.Runs.{IsUnread}
use Rattle.unixvol.proofs.Concluded.{ends_unread}
use Rattle.unixvol.proofs.FileFaults.{stopped}
use Rattle.unixvol.proofs.SavedLists.{ends_listed, saved_list}
use Rattle.unixvol.proofs.build_list.run_build_list.Goals as goal

pub returns-in_err-image-clause-runs : goal.returns-in_err-image-clause-runs
returns-in_err-image-clause-runs g c known failed =
    inl (stopped (IsUnread g.R.File.Read.remaining) known failed _ _ c.from_residual.ensures.1 c.in_err-image.ensures.fault)

pub returns-in-Ok-clause-runs : goal.returns-in-Ok-clause-runs
returns-in-Ok-clause-runs g c known failed =
    let read = c.in-Ok.read in
    inr (
      c.in_ok-image.image.items,
      Ok read,
      c.in_ok-image.ensures.given,
      subst (λ name. ListsVolume c.args.volume.edition c.in_ok-image.image.items name (Ok read)) c.name_of-name.ensures c.in-Ok.ensures,
      Keeps-refl known,
      refl,
      saved_list (IsTaken g.R.File.Write.contents) g.R.ImageFiles.stood _ read _ _ c.after_saving.ensures.status c.save_listed-saved.ensures.saved
          c.save_listed-saved.ensures.fault (ap line_after c.after_saving.ensures.fault),
    )

pub returns-in-Err-clause-runs : goal.returns-in-Err-clause-runs
returns-in-Err-clause-runs g c known failed =
    let fault = c.in-Err.fault in
    inr (
      c.in_ok-image.image.items,
      Err fault,
      c.in_ok-image.ensures.given,
      subst (λ name. ListsVolume c.args.volume.edition c.in_ok-image.image.items name (Err fault)) c.name_of-name.ensures c.in-Err.ensures,
      Keeps-refl known,
      refl,
      (c.from.ensures.0, ap line_after c.from.ensures.1),
    )

pub returns-in_err-image-clause-ends : goal.returns-in_err-image-clause-ends
returns-in_err-image-clause-ends g c known failed =
    let done = stopped (IsUnread g.R.File.Read.remaining) known failed _ _ c.from_residual.ensures.1 c.in_err-image.ensures.fault in
    ends_unread g.R.File.Read.remaining _ _ done.0 done.1

pub returns-in-Ok-clause-ends : goal.returns-in-Ok-clause-ends
returns-in-Ok-clause-ends g c known failed =
    let taken = IsTaken g.R.File.Write.contents in
    let stood = g.R.ImageFiles.stood in
    let read = c.in-Ok.read in
    ends_listed _ taken stood (Ok read) (run_status c.after_saving.result)
    (saved_list taken stood _ read _ _ c.after_saving.ensures.status c.save_listed-saved.ensures.saved c.save_listed-saved.ensures.fault
    (ap line_after c.after_saving.ensures.fault)) (Keeps-refl known) refl

pub returns-in-Err-clause-ends : goal.returns-in-Err-clause-ends
returns-in-Err-clause-ends g c known failed =
    ends_listed _ (IsTaken g.R.File.Write.contents) g.R.ImageFiles.stood (Err c.in-Err.fault) c.from.result.status
    (c.from.ensures.0, ap line_after c.from.ensures.1) (Keeps-refl known) refl
