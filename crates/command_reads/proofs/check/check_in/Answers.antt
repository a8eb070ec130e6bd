use Rattle.std.proofs.Common.{◌∙◌, sym}
use Rattle.command_reads.proofs.KnownChecks.{with_marks}
use Rattle.command_reads.proofs.check.check_in.Goals as goal

pub returns : goal.returns
returns c =
    with_marks c.args.edition c.args.image.now c.args.lost.now c.args.graded c.args.form c.check_known.result
    (sym c.is_empty.ensures ∙ c.if-is_empty.false) c.check_known.ensures
