use Rattle.std.proofs.Common.{◌++◌, ap, ◌∙◌, arith}
use Rattle.std.specs.List.{flat_map}
use Rattle.std.specs.String.{string_bytes}
use Rattle.std.proofs.lemmas.List.{take_all}
use Rattle.vol_inspect.specs.Pictures.{legend_line, legend_lines}
use Rattle.vol_inspect.proofs.drawing.push_legend_lines.Goals as goal

pub returns : goal.returns
unfolding legend_lines
returns c =
    c.loop-one.invariant
    ∙ ap (λ us. string_bytes c.args.text.now ++ flat_map (legend_line c.args.coloured c.args.blocks.now c.args.cells.now) us)
    (take_all c.loop-one.one-index c.args.kinds.now (omega arith))
