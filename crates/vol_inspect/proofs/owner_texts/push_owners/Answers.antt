use Rattle.std.proofs.Common.{◌++◌, ap, ◌∙◌, arith}
use Rattle.std.specs.List.{flat_map}
use Rattle.std.specs.String.{string_bytes}
use Rattle.std.proofs.lemmas.List.{take_all}
use Rattle.vol_inspect.specs.OwnerTexts.{owner_line, owners_text}
use Rattle.vol_inspect.proofs.owner_texts.push_owners.Goals as goal

pub returns : goal.returns
unfolding owners_text
returns c =
    c.loop-owner.invariant
    ∙ ap (λ os. string_bytes c.args.text.now ++ flat_map (owner_line c.args.b) os) (take_all c.loop-owner.owner-index c.args.owners.now (omega arith))
