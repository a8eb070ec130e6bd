use Rattle.std.proofs.Common.{◌≡◌, Err, arith, inl, inr, refl}
use Rattle.std.proofs.KnownBytes.{Keeps-refl}
use Rattle.command_changes.specs.Import.{of_import}
use Rattle.command_changes.specs.Sync.{calls_to_sync}
use Rattle.command_changes.specs.declared.sync.Unchanged.TheVariants as unchanged
use Rattle.unixvol.specs.Runs.{IsStatusOfFileOrMemory}
use Rattle.vol_import.specs.Make.{told}
use Rattle.vol_volume.specs.Volume.{reads_as}
use Rattle.unixvol.proofs.CopiesMade.{ends_unsaved}
use Rattle.unixvol.proofs.FileFaults.{stopped, stopped_status}
use Rattle.unixvol.proofs.Synced.{unread_status}
use Rattle.unixvol.proofs.Traced.{ends_traced}
use Rattle.unixvol.proofs.sync.run_put_tree.Goals as goal

pub returns-in-Some-clause-runs : goal.returns-in-Some-clause-runs
returns-in-Some-clause-runs g c =
    let done = stopped (λ status. status ≡ 2) (g.O.Sink.contents c.args.output.now) (g.O.Sink.failed c.args.output.now) (Err c.from.result) _ c.from.ensures refl in
    inl (done.0, (c.in-Some.word, c.in-Some.ensures.some), done.1, done.2, done.3)

pub returns-in-Some-clause-ends : goal.returns-in-Some-clause-ends
returns-in-Some-clause-ends g c =
    let two = stopped_status (λ status. status ≡ 2) (Err c.from.result) _ c.from.ensures refl in
    record {
      within = omega (arith, two);
      silent = λ _ _. Keeps-refl (g.O.Sink.contents c.args.output.now);
      whole = λ e. absurd (omega (arith, two, e));
    }

pub returns-in_err-expect_volume-clause-runs : goal.returns-in_err-expect_volume-clause-runs
returns-in_err-expect_volume-clause-runs g c =
    inr (c.moment_file.ensures.none c.in_default.is, inl (stopped IsStatusOfFileOrMemory (g.O.Sink.contents c.args.output.now) (g.O.Sink.failed c.args.output.now) _ _ c.from_residual.ensures.1 (inl c.in_err-expect_volume.ensures)))

pub returns-in_err-expect_volume-clause-ends : goal.returns-in_err-expect_volume-clause-ends
returns-in_err-expect_volume-clause-ends g c =
    ends_unsaved _ _ (stopped_status IsStatusOfFileOrMemory _ _ c.from_residual.ensures.1 (inl c.in_err-expect_volume.ensures)) (Keeps-refl (g.O.Sink.contents c.args.output.now))

pub returns-in_err-members-clause-runs : goal.returns-in_err-members-clause-runs
returns-in_err-members-clause-runs g c =
    inr (c.moment_file.ensures.none c.in_default.is, inl (stopped IsStatusOfFileOrMemory (g.O.Sink.contents c.args.output.now) (g.O.Sink.failed c.args.output.now) _ _ c.from_residual-in_err-members.ensures.1 c.in_err-members.ensures.fault))

pub returns-in_err-members-clause-ends : goal.returns-in_err-members-clause-ends
returns-in_err-members-clause-ends g c =
    ends_unsaved _ _ (stopped_status IsStatusOfFileOrMemory _ _ c.from_residual-in_err-members.ensures.1 c.in_err-members.ensures.fault) (Keeps-refl (g.O.Sink.contents c.args.output.now))

pub returns-in_err-image-clause-runs : goal.returns-in_err-image-clause-runs
returns-in_err-image-clause-runs g c =
    inr (c.moment_file.ensures.none c.in_default.is, inl (stopped IsStatusOfFileOrMemory (g.O.Sink.contents c.args.output.now) (g.O.Sink.failed c.args.output.now) _ _ c.from_residual-in_err-image.ensures.1 (unread_status g.R.File.Read.remaining _ c.in_err-image.ensures.fault)))

pub returns-in_err-image-clause-ends : goal.returns-in_err-image-clause-ends
returns-in_err-image-clause-ends g c =
    ends_unsaved _ _ (stopped_status IsStatusOfFileOrMemory _ _ c.from_residual-in_err-image.ensures.1 (unread_status g.R.File.Read.remaining _ c.in_err-image.ensures.fault)) (Keeps-refl (g.O.Sink.contents c.args.output.now))

pub returns-clause-runs : goal.returns-clause-runs
returns-clause-runs g c =
    inr (
      c.moment_file.ensures.none c.in_default.is,
      inr (
        c.in_ok-image.image.items,
        c.in_ok-image.stamp,
        c.in_ok-members.members.items,
        c.sync_tree-outcome.result,
        c.in_ok-image.ensures.given,
        c.in_ok-members.ensures.read,
        c.sync_tree-outcome.ensures,
        c.save_traced.ensures,
      ),
    )

pub returns-clause-ends : goal.returns-clause-ends
returns-clause-ends g c =
    ends_traced
    (of_import c.args.volume.edition c.in_ok-image.image.items
    (told (calls_to_sync (reads_as c.args.volume.edition c.in_ok-image.image.items).tree
    (record { directory = c.args.directory; owner = c.args.owner; unchanged = unchanged.Put; now = c.args.now.seconds }) c.in_ok-members.members.items)) c.args.trace)
    _ _ c.sync_tree-outcome.result _ c.sync_tree-outcome.ensures c.save_traced.ensures
