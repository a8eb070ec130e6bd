use Rattle.std.proofs.Common.{◌∙◌}
use Rattle.std.proofs.lemmas.Result.{IfOk-weaker}
use Rattle.vol_scripts.proofs.TextLemmas.{unread_pieces}
use Rattle.vol_scripts.proofs.unread_scripts.unread_text.Goals as goal

pub returns : goal.returns
returns c = IfOk-weaker c.format.result _ _ (λ text is. is ∙ unread_pieces c.args.script c.args.line) c.format.ensures.ok
