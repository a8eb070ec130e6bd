use Rattle.std.proofs.Common.{◌≡◌, Err, arith, inl, inr, refl}
use Rattle.std.proofs.KnownBytes.{Keeps-refl}
use Rattle.command_changes.specs.Import.{of_import}
use Rattle.command_changes.specs.Put.{calls_to_put}
use Rattle.unixvol.specs.Runs.{IsUnread}
use Rattle.vol_import.specs.Make.{told}
use Rattle.vol_volume.specs.Volume.{reads_as}
use Rattle.unixvol.proofs.Concluded.{ends_unread}
use Rattle.unixvol.proofs.FileFaults.{stopped, stopped_status}
use Rattle.unixvol.proofs.Traced.{ends_traced}
use Rattle.unixvol.proofs.copy.run_put.Goals as goal

pub returns-in-Some-clause-runs : goal.returns-in-Some-clause-runs
returns-in-Some-clause-runs g c =
    let done = stopped (λ status. status ≡ 2) (g.O.Sink.contents c.args.output.now) (g.O.Sink.failed c.args.output.now) (Err c.from.result) _ c.from.ensures refl in
    inl (done.0, (c.in-Some.word, c.in-Some.ensures.some), done.1, done.2, done.3)

pub returns-in-Some-clause-ends : goal.returns-in-Some-clause-ends
returns-in-Some-clause-ends g c =
    let two = stopped_status (λ status. status ≡ 2) (Err c.from.result) _ c.from.ensures refl in
    record {
      within = omega (arith, two);
      silent = λ _ _. Keeps-refl (g.O.Sink.contents c.args.output.now);
      whole = λ e. absurd (omega (arith, two, e));
    }

pub returns-in_err-expect_volume-clause-runs : goal.returns-in_err-expect_volume-clause-runs
returns-in_err-expect_volume-clause-runs g c =
    inr (
      c.moment_file.ensures.none c.in_default.is,
      inl (stopped (IsUnread g.R.File.Read.remaining) (g.O.Sink.contents c.args.output.now) (g.O.Sink.failed c.args.output.now) _ _ c.from_residual.ensures.1 (inl c.in_err-expect_volume.ensures)),
    )

pub returns-in_err-expect_volume-clause-ends : goal.returns-in_err-expect_volume-clause-ends
returns-in_err-expect_volume-clause-ends g c =
    let known = g.O.Sink.contents c.args.output.now in
    ends_unread g.R.File.Read.remaining _ _
    (stopped_status (IsUnread g.R.File.Read.remaining) _ _ c.from_residual.ensures.1 (inl c.in_err-expect_volume.ensures)) (Keeps-refl known)

pub returns-in_err-files-clause-runs : goal.returns-in_err-files-clause-runs
returns-in_err-files-clause-runs g c =
    inr (
      c.moment_file.ensures.none c.in_default.is,
      inl (stopped (IsUnread g.R.File.Read.remaining) (g.O.Sink.contents c.args.output.now) (g.O.Sink.failed c.args.output.now) _ _ c.from_residual-in_err-files.ensures.1 c.in_err-files.ensures.fault),
    )

pub returns-in_err-files-clause-ends : goal.returns-in_err-files-clause-ends
returns-in_err-files-clause-ends g c =
    let known = g.O.Sink.contents c.args.output.now in
    ends_unread g.R.File.Read.remaining _ _
    (stopped_status (IsUnread g.R.File.Read.remaining) _ _ c.from_residual-in_err-files.ensures.1 c.in_err-files.ensures.fault) (Keeps-refl known)

pub returns-in_err-image-clause-runs : goal.returns-in_err-image-clause-runs
returns-in_err-image-clause-runs g c =
    inr (
      c.moment_file.ensures.none c.in_default.is,
      inl (stopped (IsUnread g.R.File.Read.remaining) (g.O.Sink.contents c.args.output.now) (g.O.Sink.failed c.args.output.now) _ _ c.from_residual-in_err-image.ensures.1 c.in_err-image.ensures.fault),
    )

pub returns-in_err-image-clause-ends : goal.returns-in_err-image-clause-ends
returns-in_err-image-clause-ends g c =
    let known = g.O.Sink.contents c.args.output.now in
    ends_unread g.R.File.Read.remaining _ _
    (stopped_status (IsUnread g.R.File.Read.remaining) _ _ c.from_residual-in_err-image.ensures.1 c.in_err-image.ensures.fault) (Keeps-refl known)

pub returns-clause-runs : goal.returns-clause-runs
returns-clause-runs g c =
    inr (
      c.moment_file.ensures.none c.in_default.is,
      inr (
        c.in_ok-image.image.items,
        c.in_ok-image.stamp,
        c.in_ok-files.files.items,
        c.put_files-outcome.result,
        c.in_ok-image.ensures.given,
        (c.in_ok-files.ensures.given, c.in_ok-files.ensures.named),
        c.put_files-outcome.ensures,
        c.save_traced.ensures,
      ),
    )

pub returns-clause-ends : goal.returns-clause-ends
returns-clause-ends g c =
    ends_traced
    (of_import c.args.volume.edition c.in_ok-image.image.items
    (told (calls_to_put (reads_as c.args.volume.edition c.in_ok-image.image.items).tree c.args.now.seconds c.args.directory.now c.args.owner c.in_ok-files.files.items)) c.args.trace)
    _ _ c.put_files-outcome.result _ c.put_files-outcome.ensures c.save_traced.ensures
