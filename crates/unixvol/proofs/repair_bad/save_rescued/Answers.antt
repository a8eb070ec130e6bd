use Rattle.std.proofs.Common.{inl, inr}
use Rattle.command_reads.proofs.Printed.{told_only}
use Rattle.unixvol.specs.Runs.{IsStatusOfFileOrMemory}
use Rattle.unixvol.proofs.FileFaults.{stopped}
use Rattle.unixvol.proofs.repair_bad.save_rescued.Goals as goal

-- memory ran out for the report on standard error
pub returns : goal.returns
returns g c = inr (inr (told_only c.from.ensures))

-- something exists at the path of a file that must be new
pub returns-in_err-expect_new : goal.returns-in_err-expect_new
returns-in_err-expect_new g c =
    inr (inl (stopped IsStatusOfFileOrMemory (g.O.Sink.contents c.args.output.now) (g.O.Sink.failed c.args.output.now) _ _ c.from_residual.ensures.1 c.in_err-expect_new.ensures))

-- the copy isn't saved
pub returns-in_err-save_over : goal.returns-in_err-save_over
returns-in_err-save_over g c =
    inr (inl (stopped IsStatusOfFileOrMemory (g.O.Sink.contents c.args.output.now) (g.O.Sink.failed c.args.output.now) _ _ c.from_residual-in_err-save_over.ensures.1 c.in_err-save_over.ensures.fault))
