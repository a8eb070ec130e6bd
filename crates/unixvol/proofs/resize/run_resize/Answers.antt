use Rattle.std.proofs.Common.{◌≡◌, ◌∙◌, ℕ, ap, arith, inl, inr, length, refl, subst}
use Rattle.command_changes.specs.Resize.{of_resize}
use Rattle.command_faults.proofs.Concluded.{among, concluded}
use Rattle.unixvol.proofs.Concluded.{ends_concluded, ends_unread}
use Rattle.unixvol.proofs.FileFaults.{after_saving, stopped}
use Rattle.pack_files.specs.PackFiles.{blocks_in}
use Rattle.unixvol.specs.FileFaults.{run_status}
use Rattle.unixvol.specs.Runs.{EndsSaved, IsUnread, SavesResized, host_files}
use Rattle.unixvol.proofs.resize.run_resize.Goals as goal

pub returns-in_err-image-clause-runs : goal.returns-in_err-image-clause-runs
returns-in_err-image-clause-runs g c known failed =
    inl (stopped (IsUnread g.R.File.Read.remaining) known failed _ _ c.from_residual.ensures.1 c.in_err-image.ensures.fault)

pub returns-in_err-image-clause-ends : goal.returns-in_err-image-clause-ends
returns-in_err-image-clause-ends g c known failed =
    let done = stopped (IsUnread g.R.File.Read.remaining) known failed _ _ c.from_residual.ensures.1 c.in_err-image.ensures.fault in
    ends_unread g.R.File.Read.remaining _ _ done.0 done.1

pub returns-clause-runs : goal.returns-clause-runs
returns-clause-runs g c known failed =
    let files = host_files c.args.volume.at g.R.File.Read.remaining g.R.File.Write.contents g.R.ImageFiles.had g.R.ImageFiles.stood in
    let size : c.len.result ≡ length c.in_ok-image.image.items = omega (arith, c.len.ensures, c.in_ok-image.image.ok.0) in
    inr (
      c.in_ok-image.image.items,
      c.in_ok-image.stamp,
      c.conclude-answer.result,
      c.in_ok-image.ensures.given,
      concluded _ _ _ _ _ _ (among _ _ _ _ _ refl c.resize_image-resized.ensures.resized c.resize_image-resized.ensures.fault c.unremarked.ensures)
          c.conclude-answer.ensures.made c.conclude-answer.ensures.fault c.after_saving.ensures.fault,
      subst (λ (had : ℕ). EndsSaved (SavesResized files c.in_ok-image.stamp (record { at = c.args.volume.at; had = had; gets = c.args.blocks }) c.args.is_trial)
          c.conclude-answer.result (run_status c.after_saving.result)) (c.blocks_in.ensures ∙ ap blocks_in size)
          (after_saving _ _ _ _ _ c.after_saving.ensures.status c.save_resized-saved.ensures.saved c.save_resized-saved.ensures.fault),
    )

pub returns-clause-ends : goal.returns-clause-ends
returns-clause-ends g c known failed =
    let files = host_files c.args.volume.at g.R.File.Read.remaining g.R.File.Write.contents g.R.ImageFiles.had g.R.ImageFiles.stood in
    ends_concluded (of_resize c.args.volume.edition c.in_ok-image.image.items c.args.blocks) _
    (SavesResized files c.in_ok-image.stamp (record { at = c.args.volume.at; had = c.blocks_in.result; gets = c.args.blocks }) c.args.is_trial) c.conclude-answer.result
    (run_status c.after_saving.result)
    (concluded _ _ _ _ _ _ (among _ _ _ _ _ refl c.resize_image-resized.ensures.resized c.resize_image-resized.ensures.fault c.unremarked.ensures)
    c.conclude-answer.ensures.made c.conclude-answer.ensures.fault c.after_saving.ensures.fault)
    (after_saving _ _ _ _ _ c.after_saving.ensures.status c.save_resized-saved.ensures.saved c.save_resized-saved.ensures.fault)
