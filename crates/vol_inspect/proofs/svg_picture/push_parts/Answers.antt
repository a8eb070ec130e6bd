use Rattle.std.proofs.Common.{◌++◌, ap, ◌∙◌, arith}
use Rattle.std.specs.List.{flat_map}
use Rattle.std.specs.String.{string_bytes}
use Rattle.std.proofs.lemmas.List.{take_all}
use Rattle.vol_inspect.specs.Svg.{part_text, parts_text}
use Rattle.vol_inspect.proofs.svg_picture.push_parts.Goals as goal

pub returns : goal.returns
unfolding parts_text
returns c =
    c.loop-kind.invariant
    ∙ ap (λ us. string_bytes c.args.text.now ++ flat_map (part_text c.args.blocks.now) us) (take_all c.loop-kind.kind-index c.args.kinds.now (omega arith))
