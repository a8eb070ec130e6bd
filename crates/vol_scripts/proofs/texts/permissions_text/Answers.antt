use Rattle.std.proofs.Common.{◌∙◌}
use Rattle.std.proofs.lemmas.Result.{IfOk-weaker}
use Rattle.vol_scripts.proofs.TextLemmas.{four_digits}
use Rattle.vol_scripts.proofs.texts.permissions_text.Goals as goal

pub returns : goal.returns
returns c = IfOk-weaker c.format.result _ _ (λ text is. is ∙ four_digits c.args.bits) c.format.ensures.ok
