use Rattle.std.proofs.Common.{◌∙◌, sym}
use Rattle.command_reads.proofs.KnownOwners.{with_marks, without_marks}
use Rattle.command_reads.proofs.bad_owners.block_in.Goals as goal

pub returns : goal.returns
returns c =
    with_marks c.args.edition c.args.image.now c.args.lost.now c.args.block c.args.form c.known_block.result
    (sym c.is_empty.ensures ∙ c.if-is_empty.false) c.known_block.ensures

pub returns-then-is_empty : goal.returns-then-is_empty
returns-then-is_empty c =
    without_marks c.args.edition c.args.image.now c.args.lost.now c.args.block c.args.form c.whole_block.result
    (sym c.is_empty.ensures ∙ c.if-is_empty.true) c.whole_block.ensures
