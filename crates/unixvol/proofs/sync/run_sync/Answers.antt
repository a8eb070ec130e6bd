use Rattle.std.proofs.Common.{◌≡◌, ap, inl, inr, refl}
use Rattle.std.proofs.KnownBytes.{Keeps-refl}
use Rattle.command_faults.specs.Faults.{line_after}
use Rattle.unixvol.specs.Runs.{IsStatusOfFileOrMemory, host_files}
use Rattle.unixvol.proofs.CopiesMade.{ends_told, ends_unsaved}
use Rattle.unixvol.proofs.FileFaults.{stopped, stopped_status}
use Rattle.unixvol.proofs.Synced.{ends_synced, unread_status}
use Rattle.unixvol.proofs.sync.run_sync.Goals as goal

pub returns-in_err-expect_volume-clause-runs : goal.returns-in_err-expect_volume-clause-runs
returns-in_err-expect_volume-clause-runs g c =
    inl (stopped IsStatusOfFileOrMemory (g.O.Sink.contents c.args.output.now) (g.O.Sink.failed c.args.output.now) _ _ c.from_residual.ensures.1 (inl c.in_err-expect_volume.ensures))

pub returns-in_err-expect_volume-clause-ends : goal.returns-in_err-expect_volume-clause-ends
returns-in_err-expect_volume-clause-ends g c =
    ends_unsaved _ _ (stopped_status IsStatusOfFileOrMemory _ _ c.from_residual.ensures.1 (inl c.in_err-expect_volume.ensures)) (Keeps-refl (g.O.Sink.contents c.args.output.now))

pub returns-in_err-members-clause-runs : goal.returns-in_err-members-clause-runs
returns-in_err-members-clause-runs g c =
    inl (stopped IsStatusOfFileOrMemory (g.O.Sink.contents c.args.output.now) (g.O.Sink.failed c.args.output.now) _ _ c.from_residual-in_err-members.ensures.1 c.in_err-members.ensures.fault)

pub returns-in_err-members-clause-ends : goal.returns-in_err-members-clause-ends
returns-in_err-members-clause-ends g c =
    ends_unsaved _ _ (stopped_status IsStatusOfFileOrMemory _ _ c.from_residual-in_err-members.ensures.1 c.in_err-members.ensures.fault) (Keeps-refl (g.O.Sink.contents c.args.output.now))

pub returns-in_err-image-clause-runs : goal.returns-in_err-image-clause-runs
returns-in_err-image-clause-runs g c =
    inl (stopped IsStatusOfFileOrMemory (g.O.Sink.contents c.args.output.now) (g.O.Sink.failed c.args.output.now) _ _ c.from_residual-in_err-image.ensures.1 (unread_status g.R.File.Read.remaining _ c.in_err-image.ensures.fault))

pub returns-in_err-image-clause-ends : goal.returns-in_err-image-clause-ends
returns-in_err-image-clause-ends g c =
    ends_unsaved _ _ (stopped_status IsStatusOfFileOrMemory _ _ c.from_residual-in_err-image.ensures.1 (unread_status g.R.File.Read.remaining _ c.in_err-image.ensures.fault)) (Keeps-refl (g.O.Sink.contents c.args.output.now))

pub returns-in-Ok-clause-runs : goal.returns-in-Ok-clause-runs
returns-in-Ok-clause-runs g c =
    inr (
      c.in_ok-image.image.items,
      c.in_ok-image.stamp,
      c.in_ok-members.members.items,
      c.in_ok-image.ensures.given,
      c.in_ok-members.ensures.read,
      inr (c.in-Ok.synced, c.in-Ok.ensures.synced, c.end_sync.ensures),
    )

pub returns-in-Ok-clause-ends : goal.returns-in-Ok-clause-ends
returns-in-Ok-clause-ends g c =
    let files = host_files c.args.volume.at g.R.File.Read.remaining g.R.File.Write.contents g.R.ImageFiles.had g.R.ImageFiles.stood in
    ends_synced files c.in_ok-image.stamp c.args.is_trial c.in-Ok.synced _ _ c.end_sync.ensures

pub returns-clause-runs : goal.returns-clause-runs
returns-clause-runs g c =
    inr (
      c.in_ok-image.image.items,
      c.in_ok-image.stamp,
      c.in_ok-members.members.items,
      c.in_ok-image.ensures.given,
      c.in_ok-members.ensures.read,
      inl (
        c.in-Err.fault,
        c.in-Err.ensures.fault,
        record {
          status = c.from.ensures.0;
          kept = Keeps-refl (g.O.Sink.contents c.args.output.now);
          working = refl;
          said = ap line_after c.from.ensures.1;
        },
      ),
    )

pub returns-clause-ends : goal.returns-clause-ends
returns-clause-ends g c =
    ends_told _ c.in-Err.fault _ (record {
      status = c.from.ensures.0;
      kept = Keeps-refl (g.O.Sink.contents c.args.output.now);
      working = refl;
      said = ap line_after c.from.ensures.1;
    })
