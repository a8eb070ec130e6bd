use Rattle.std.proofs.Common.{inl, inr}
use Rattle.unixvol.specs.Runs.{IsUnread}
use Rattle.unixvol.proofs.Concluded.{ends_unread}
use Rattle.unixvol.proofs.Done.{ends_shown}
use Rattle.unixvol.proofs.FileFaults.{stopped}
use Rattle.unixvol.proofs.looks.run_get.Goals as goal

pub returns-in_err-image-clause-runs : goal.returns-in_err-image-clause-runs
returns-in_err-image-clause-runs g c =
    inl (stopped (IsUnread g.R.File.Read.remaining) (g.O.Sink.contents c.args.output.now) (g.O.Sink.failed c.args.output.now) _ _ c.from_residual.ensures.1 c.in_err-image.ensures.fault)

pub returns-clause-runs : goal.returns-clause-runs
returns-clause-runs g c = inr (c.in_ok-image.image.items, c.in_ok-image.ensures.given, c.show_file.ensures)

pub returns-in_err-image-clause-ends : goal.returns-in_err-image-clause-ends
returns-in_err-image-clause-ends g c =
    let done = stopped (IsUnread g.R.File.Read.remaining) (g.O.Sink.contents c.args.output.now) (g.O.Sink.failed c.args.output.now) _ _ c.from_residual.ensures.1 c.in_err-image.ensures.fault in
    ends_unread g.R.File.Read.remaining _ _ done.0 done.1

pub returns-clause-ends : goal.returns-clause-ends
returns-clause-ends g c =
    ends_shown c.args.volume.edition c.in_ok-image.image.items _ _ c.show_file.result.status
    c.show_file.ensures
