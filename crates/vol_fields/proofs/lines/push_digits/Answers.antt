use Rattle.std.proofs.Common.{◌∷◌, ◌++◌, ap, ◌∙◌, arith}
use Rattle.std.specs.List.{flat_map}
use Rattle.std.proofs.lemmas.List.{take_all}
use Rattle.vol_fields.specs.Lines.{all_digits, byte_digits}
use Rattle.vol_fields.proofs.lines.push_digits.Goals as goal

pub returns : goal.returns
unfolding all_digits
returns c =
    c.loop-byte.invariant
    ∙ ap (λ bs. c.args.text.now.items ++ flat_map (λ c'. 32 ∷ byte_digits c.args.radix c') bs) (take_all c.loop-byte.byte-index c.args.bytes.now (omega arith))
