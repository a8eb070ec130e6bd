use Rattle.std.proofs.Common.{not, sym, ap, arith, ◌∙◌}
use Rattle.std.proofs.lemmas.Bool.{eqb-true}
use Rattle.vol_losses.proofs.LostPaths.{no_marks, none_unsure}
use Rattle.vol_losses.proofs.sure_blocks.next_block.Goals as goal

pub returns-then-is_empty : goal.returns-then-is_empty
returns-then-is_empty c = record {
  reached = c.requires.order;
  within = omega arith;
  before = λ b low high.
      none_unsure c.args.geometry.now c.args.image.now c.args.lost.now c.args.i b (no_marks c.args.lost.now (eqb-true _ _ (sym c.if-is_empty.ensures)))
      ∙ sym (ap not c.if-unsure.true);
  here = λ low. absurd (omega (arith, low));
}
