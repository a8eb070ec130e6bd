use Rattle.std.proofs.Common.{inr}
use Rattle.unixvol.specs.Runs.{IsStatusOfFileOrMemory}
use Rattle.unixvol.proofs.FileFaults.{stopped}
use Rattle.unixvol.proofs.commands.save_copy.Goals as goal

pub returns-in_err-save_over : goal.returns-in_err-save_over
returns-in_err-save_over g c =
    inr (inr (stopped IsStatusOfFileOrMemory (g.O.Sink.contents c.args.output.now) (g.O.Sink.failed c.args.output.now) _ _ c.from_residual.ensures.1 c.in_err-save_over.ensures.fault))
