use Rattle.std.proofs.Common.{ap, sym, ◌∙◌}
use Rattle.vol_file.specs.Shape.{is_named}
use Rattle.vol_file.specs.MissingBlocks.{missing_at, grown_form, grown_names}
use Rattle.vol_file.proofs.blocks_needed.missing_at.Goals as goal

pub returns-then-grows-clause-exact : goal.returns-then-grows-clause-exact
returns-then-grows-clause-exact c =
    c.missing_once_large.ensures.exact
    ∙ ap (λ g. missing_at (grown_form c.args.form g) (grown_names (is_named c.args.geometry.now c.args.image.now c.args.i) g) c.args.whole c.args.b) (sym c.if-grows.true)
