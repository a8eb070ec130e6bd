use Rattle.std.proofs.Common.{ℕ, inl, inr, subst, sym}
use Rattle.unixvol.specs.Runs.{EndsPlayed, IsStored, IsUnread}
use Rattle.unixvol.proofs.FileFaults.{stopped}
use Rattle.unixvol.proofs.threads.run_play.Goals as goal

pub returns-in_err-expect_volume : goal.returns-in_err-expect_volume
returns-in_err-expect_volume g c =
    inl (stopped (IsUnread g.R.File.Read.remaining) (g.O.Sink.contents c.args.output.now) (g.O.Sink.failed c.args.output.now) _ _ c.from_residual.ensures.1 (inl c.in_err-expect_volume.ensures))

pub returns-in_err-files : goal.returns-in_err-files
returns-in_err-files g c =
    inl (stopped (IsUnread g.R.File.Read.remaining) (g.O.Sink.contents c.args.output.now) (g.O.Sink.failed c.args.output.now) _ _ c.from_residual-in_err-files.ensures.1 c.in_err-files.ensures.fault)

pub returns-in_err-image : goal.returns-in_err-image
returns-in_err-image g c =
    inl (stopped (IsUnread g.R.File.Read.remaining) (g.O.Sink.contents c.args.output.now) (g.O.Sink.failed c.args.output.now) _ _ c.from_residual-in_err-image.ensures.1 c.in_err-image.ensures.fault)

pub returns : goal.returns
returns g c =
    inr (
      c.in_ok-image.image.items,
      c.in_ok-image.stamp,
      c.in_ok-files.files.items,
      c.perform-answer.result,
      c.in_ok-image.ensures.given,
      c.in_ok-files.ensures.given,
      c.in_ok-files.ensures.count,
      rw c.after_saving.ensures.fault c.perform-answer.ensures,
      subst (λ (status : ℕ). EndsPlayed (λ bytes. IsStored c.args.volume.at bytes g.R.File.Read.remaining g.R.File.Write.contents g.R.ImageFiles.had × g.R.ImageFiles.stood c.in_ok-image.stamp)
          c.perform-answer.result status) (sym c.after_saving.ensures.status) c.save_played-saved.ensures,
    )
