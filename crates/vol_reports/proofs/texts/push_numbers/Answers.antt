use Rattle.std.proofs.Common.{◌++◌, ap, ◌∙◌, arith}
use Rattle.std.specs.List.{flat_map}
use Rattle.std.proofs.lemmas.List.{take_all}
use Rattle.vol_reports.specs.Texts.{spaced, all_spaced}
use Rattle.vol_reports.proofs.texts.push_numbers.Goals as goal

pub returns : goal.returns
unfolding all_spaced
returns c =
    c.loop-number.invariant
    ∙ ap (λ ns. c.args.text.now.items ++ flat_map spaced ns) (take_all c.loop-number.number-index c.args.numbers.now (omega arith))
