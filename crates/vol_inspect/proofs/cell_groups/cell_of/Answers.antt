use Rattle.std.proofs.Common.{ap, ◌∙◌}
use Rattle.vol_inspect.specs.Cells.{cell_of, cell_with}
use Rattle.vol_inspect.proofs.cell_groups.cell_of.Goals as goal

pub returns : goal.returns
unfolding cell_of
returns c = c.cell_with.ensures ∙ ap (cell_with c.args.blocks.now) c.most_common.ensures
