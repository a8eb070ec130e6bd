use Rattle.std.proofs.Common.{◌∙◌}
use Rattle.std.proofs.lemmas.Result.{IfOk-weaker}
use Rattle.vol_scripts.proofs.TextLemmas.{node_pieces}
use Rattle.vol_scripts.proofs.texts.node_text.Goals as goal

pub returns : goal.returns
returns c =
    IfOk-weaker c.format.result _ _
    (λ text is. is ∙ node_pieces c.args.stat.now c.kind_text-kind.result.now c.as_str-permissions.result.now c.kind_text-kind.ensures (c.as_str-permissions.ensures.value ∙ c.in_ok-permissions.ensures))
    c.format.ensures.ok
