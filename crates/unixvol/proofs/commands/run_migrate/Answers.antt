use Rattle.std.proofs.Common.{inl, inr, refl}
use Rattle.command_changes.specs.Migrate.{of_migration}
use Rattle.command_faults.proofs.Concluded.{among, concluded}
use Rattle.host_files.specs.Save.{IsTaken}
use Rattle.unixvol.specs.Runs.{IsUnread}
use Rattle.unixvol.proofs.Concluded.{ends_concluded, ends_unread}
use Rattle.unixvol.proofs.FileFaults.{after_saving, stopped}
use Rattle.unixvol.proofs.commands.run_migrate.Goals as goal

pub returns-in_err-image-clause-runs : goal.returns-in_err-image-clause-runs
returns-in_err-image-clause-runs g c known failed =
    inl (stopped (IsUnread g.R.File.Read.remaining) known failed _ _ c.from_residual.ensures.1 c.in_err-image.ensures.fault)

pub returns-clause-runs : goal.returns-clause-runs
returns-clause-runs g c known failed =
    inr (
      c.in_ok-image.image.items,
      c.conclude-answer.result,
      c.in_ok-image.ensures.given,
      concluded _ _ _ _ _ _ (among _ _ _ _ _ refl c.migrate_image.ensures.migrated c.migrate_image.ensures.fault c.unremarked.ensures)
          c.conclude-answer.ensures.made c.conclude-answer.ensures.fault c.after_saving.ensures.fault,
      after_saving _ _ _ _ _ c.after_saving.ensures.status c.save_answer_over-saved.ensures.saved c.save_answer_over-saved.ensures.fault,
    )

pub returns-clause-ends : goal.returns-clause-ends
returns-clause-ends g c known failed =
    ends_concluded (of_migration c.in_ok-image.image.items c.args.migration) _ (IsTaken g.R.File.Write.contents) c.conclude-answer.result _
    (concluded _ _ _ _ _ _ (among _ _ _ _ _ refl c.migrate_image.ensures.migrated c.migrate_image.ensures.fault c.unremarked.ensures)
    c.conclude-answer.ensures.made c.conclude-answer.ensures.fault c.after_saving.ensures.fault)
    (after_saving _ _ _ _ _ c.after_saving.ensures.status c.save_answer_over-saved.ensures.saved c.save_answer_over-saved.ensures.fault)

pub returns-in_err-image-clause-ends : goal.returns-in_err-image-clause-ends
returns-in_err-image-clause-ends g c known failed =
    let done = stopped (IsUnread g.R.File.Read.remaining) known failed _ _ c.from_residual.ensures.1 c.in_err-image.ensures.fault in
    ends_unread g.R.File.Read.remaining _ _ done.0 done.1
