use Rattle.std.proofs.Common.{inr}
use Rattle.unixvol.specs.Runs.{IsStatusOfFileOrMemory}
use Rattle.unixvol.proofs.FileFaults.{stopped}
use Rattle.unixvol.proofs.commands.save_unless_kept.Goals as goal

pub returns-in_err-expect_new : goal.returns-in_err-expect_new
returns-in_err-expect_new g c =
    inr (inr (stopped IsStatusOfFileOrMemory (g.O.Sink.contents c.args.output.now) (g.O.Sink.failed c.args.output.now) _ _ c.from_residual.ensures.1 c.in_err-expect_new.ensures))
