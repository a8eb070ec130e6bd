use Rattle.std.proofs.Common.{◌++◌, ap, ◌∙◌, arith}
use Rattle.std.specs.List.{flat_map}
use Rattle.std.specs.String.{string_bytes}
use Rattle.std.proofs.lemmas.List.{take_all}
use Rattle.vol_inspect.specs.Texts.{link_text, links_text}
use Rattle.vol_inspect.proofs.texts.push_links.Goals as goal

pub returns : goal.returns
unfolding links_text
returns c =
    c.loop-link.invariant
    ∙ ap (λ ls. string_bytes c.args.text.now ++ flat_map link_text ls) (take_all c.loop-link.link-index c.args.links.now (omega arith))
