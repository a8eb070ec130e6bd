use Rattle.std.proofs.Common.{inl, inr}
use Rattle.unixvol.specs.FileFaults.{run_status}
use Rattle.unixvol.specs.Runs.{IsUnread}
use Rattle.unixvol.proofs.FileFaults.{stopped}
use Rattle.unixvol.proofs.Looked.{ends_looked}
use Rattle.unixvol.proofs.looks.run.Goals as goal

pub returns-in_err-image-clause-runs : goal.returns-in_err-image-clause-runs
returns-in_err-image-clause-runs g c =
    inl (stopped (IsUnread g.R.File.Read.remaining) (g.O.Sink.contents c.args.output.now) (g.O.Sink.failed c.args.output.now) _ _ c.from_residual.ensures.1 c.in_err-image.ensures.fault)

pub returns-clause-runs : goal.returns-clause-runs
returns-clause-runs g c = inr (c.in_ok-image.image.items, c.in_ok-image.ensures.given, c.perform.ensures)

pub returns-clause-ends : goal.returns-clause-ends
returns-clause-ends g c =
    ends_looked c.args.volume.at g.R.File.Read.remaining g.R.File.Write.contents g.R.ImageFiles.had g.R.ImageFiles.stood _ c.args.screen c.args.volume.edition c.args.look c.perform.result.status
    (inr (c.in_ok-image.image.items, c.in_ok-image.ensures.given, c.perform.ensures))

pub returns-in_err-image-clause-ends : goal.returns-in_err-image-clause-ends
returns-in_err-image-clause-ends g c =
    ends_looked c.args.volume.at g.R.File.Read.remaining g.R.File.Write.contents g.R.ImageFiles.had g.R.ImageFiles.stood _ c.args.screen c.args.volume.edition c.args.look
    (run_status c.from_residual.result)
    (inl (stopped (IsUnread g.R.File.Read.remaining) (g.O.Sink.contents c.args.output.now) (g.O.Sink.failed c.args.output.now) _ _ c.from_residual.ensures.1 c.in_err-image.ensures.fault))
