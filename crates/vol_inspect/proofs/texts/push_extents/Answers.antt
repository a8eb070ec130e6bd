use Rattle.std.proofs.Common.{◌++◌, codes, ap, ◌∙◌, arith}
use Rattle.std.specs.List.{flat_map}
use Rattle.std.specs.String.{string_bytes}
use Rattle.std.proofs.lemmas.List.{take_all}
use Rattle.vol_inspect.specs.Texts.{extent_text, extents_text}
use Rattle.vol_inspect.proofs.texts.push_extents.Goals as goal

pub returns : goal.returns
unfolding extents_text
returns c =
    c.loop-extent.invariant
    ∙ ap (λ es. string_bytes c.args.text.now ++ flat_map (λ e. extent_text e ++ codes "\n") es)
    (take_all c.loop-extent.extent-index c.args.extents.now (omega arith))
