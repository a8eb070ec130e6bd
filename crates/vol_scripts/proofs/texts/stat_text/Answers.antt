use Rattle.std.proofs.Common.{◌∙◌}
use Rattle.std.proofs.lemmas.Result.{IfOk-weaker}
use Rattle.vol_scripts.proofs.TextLemmas.{stat_pieces}
use Rattle.vol_scripts.proofs.texts.stat_text.Goals as goal

pub returns : goal.returns
returns c =
    IfOk-weaker c.format.result _ _ (λ text is. is ∙ stat_pieces c.args.stat.now c.as_str-node.result.now (c.as_str-node.ensures.value ∙ c.in_ok-node.ensures)) c.format.ensures.ok
