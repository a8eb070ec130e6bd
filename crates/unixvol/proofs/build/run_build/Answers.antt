use Rattle.std.proofs.Common.{◌≡◌, Ok, inl, inr, map, refl, subst}
use Rattle.std.proofs.KnownBytes.{Keeps-refl}
use Rattle.command_changes.specs.Build.{of_build, program_of}
use Rattle.command_changes.specs.ListLines.{IsUnlisted}
use Rattle.command_faults.proofs.Concluded.{among, concluded}
use Rattle.host_files.specs.Save.{IsTaken}
use Rattle.pack_lists.specs.Archive.{filled}
use Rattle.pack_lists.specs.Lists.{list_in, listed}
use Rattle.unixvol.specs.Runs.{IsUnread}
use Rattle.unixvol.proofs.Concluded.{ends_concluded}
use Rattle.unixvol.proofs.FileFaults.{after_saving, stopped}
use Rattle.unixvol.proofs.FilledLists.{unread_after}
use Rattle.unixvol.proofs.build.run_build.Goals as goal

pub returns-in-Err-clause-runs : goal.returns-in-Err-clause-runs
returns-in-Err-clause-runs g c known failed =
    inr (
      c.in_ok-text.text.items,
      c.in_ok-text.ensures.given,
      inl (
        c.in-Err.ending.fault,
        subst (λ text. IsUnlisted c.args.list.now text c.in-Err.ending.status c.in-Err.ending.fault) c.deref.ensures.value c.in-Err.ensures.fault,
        Keeps-refl known,
        refl,
        refl,
      ),
    )

pub returns-in_err-filled-clause-runs : goal.returns-in_err-filled-clause-runs
returns-in_err-filled-clause-runs g c known failed =
    inl (stopped (IsUnread g.R.File.Read.remaining) known failed _ _ c.from_residual-in_err-filled.ensures.1
    (unread_after g.R.File.Read.remaining _ _ c.in_ok-text.ensures.given c.in_err-filled.ensures.fault))

pub returns-clause-runs : goal.returns-clause-runs
returns-clause-runs g c known failed =
    inr (
      c.in_ok-text.text.items,
      c.in_ok-text.ensures.given,
      inr (
        c.in-Ok.listed,
        c.in_ok-filled.filled,
        c.conclude-answer.result,
        subst (λ text. list_in text ≡ Ok (listed c.in-Ok.listed)) c.deref.ensures.value c.in-Ok.ensures.ok,
        c.in_ok-filled.ensures.filled,
        concluded _ _ _ _ _ _ (among _ _ _ _ _ refl c.build_volume.ensures.built c.build_volume.ensures.fault c.unremarked.ensures)
            c.conclude-answer.ensures.made c.conclude-answer.ensures.fault c.after_saving.ensures.fault,
        after_saving _ _ _ _ _ c.after_saving.ensures.status c.save_answer_over-saved.ensures.saved c.save_answer_over-saved.ensures.fault,
      ),
    )

pub returns-clause-ends : goal.returns-clause-ends
returns-clause-ends g c known failed =
    ends_concluded (of_build c.in_ok-filled.filled.volume c.in_ok-filled.filled.root (program_of c.in_ok-filled.filled) (map filled c.in_ok-filled.filled.members.items)) _
    (IsTaken g.R.File.Write.contents) c.conclude-answer.result _
    (concluded _ _ _ _ _ _ (among _ _ _ _ _ refl c.build_volume.ensures.built c.build_volume.ensures.fault c.unremarked.ensures)
    c.conclude-answer.ensures.made c.conclude-answer.ensures.fault c.after_saving.ensures.fault)
    (after_saving _ _ _ _ _ c.after_saving.ensures.status c.save_answer_over-saved.ensures.saved c.save_answer_over-saved.ensures.fault)
