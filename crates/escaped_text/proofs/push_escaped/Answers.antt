use Rattle.std.proofs.Common.{◌++◌, ap, ◌∙◌, arith}
use Rattle.std.specs.List.{flat_map}
use Rattle.std.proofs.lemmas.List.{take_all}
use Rattle.escaped_text.specs.Escape.{escaped, escaped_byte}
use Rattle.escaped_text.proofs.push_escaped.Goals as goal

pub returns : goal.returns
unfolding escaped
returns c =
    c.loop-byte.invariant
    ∙ ap (λ bs. c.args.text.now.items ++ flat_map escaped_byte bs) (take_all c.loop-byte.byte-index c.args.bytes.now (omega arith))
