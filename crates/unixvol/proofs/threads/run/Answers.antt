use Rattle.unixvol.specs.FileFaults.{run_status}
use Rattle.unixvol.proofs.Checked.{ends_checked}
use Rattle.unixvol.proofs.Played.{ends_played}
use Rattle.unixvol.proofs.threads.run.Goals as goal

pub returns-in-Check-clause-ends : goal.returns-in-Check-clause-ends
returns-in-Check-clause-ends g c =
    ends_checked c.args.volume.at g.R.File.Read.remaining g.R.File.Write.contents g.R.ImageFiles.had g.R.ImageFiles.stood _ c.args.screen c.args.volume.edition _ _
    (run_status c.run_check.result) c.run_check.ensures

pub returns-in-Play-clause-ends : goal.returns-in-Play-clause-ends
returns-in-Play-clause-ends g c =
    ends_played c.args.volume.at g.R.File.Read.remaining g.R.File.Write.contents g.R.ImageFiles.had g.R.ImageFiles.stood _ c.args.volume.edition _ _ _ (run_status c.run_play.result)
    c.run_play.ensures

pub returns-in-Play-clause-runs : goal.returns-in-Play-clause-runs
returns-in-Play-clause-runs g c = rw c.in-Play.is (rw c.deref.ensures.value at c.run_play.ensures)

pub returns-in-Check-clause-runs : goal.returns-in-Check-clause-runs
returns-in-Check-clause-runs g c = rw c.in-Check.is c.run_check.ensures
