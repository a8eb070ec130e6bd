use Rattle.std.proofs.Common.{◌∙◌, sym}
use Rattle.command_reads.proofs.KnownUses.{uses_with_marks, uses_without_marks}
use Rattle.command_reads.proofs.bad_uses.show_uses_in.Goals as goal

pub returns : goal.returns
returns g c = uses_with_marks c.args.edition c.args.image.now c.args.lost.now _ _ (sym c.is_empty.ensures ∙ c.if-is_empty.false) c.show_known.ensures

pub returns-then-is_empty : goal.returns-then-is_empty
returns-then-is_empty g c =
    uses_without_marks c.args.edition c.args.image.now c.args.lost.now _ _ (sym c.is_empty.ensures ∙ c.if-is_empty.true) c.show_uses.ensures
