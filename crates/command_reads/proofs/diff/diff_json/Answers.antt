use Rattle.std.proofs.Common.{◌∙◌, ap}
use Rattle.command_reads.specs.Diff.{diff_status}
use Rattle.command_reads.proofs.DiffItems.{json_sight}
use Rattle.command_reads.proofs.diff.diff_json.Goals as goal

pub returns : goal.returns
returns c =
    json_sight c.args.edition c.args.old c.args.new c.args.all c.in_ok-items.items.items c.in_ok-text.text.items c.diff_status-status.result c.silent.result
    c.in_ok-items.ensures.text (λ datas is. c.in_ok-text.ensures datas (c.deref-2.ensures.value ∙ is))
    (c.diff_status-status.ensures ∙ ap diff_status c.deref.ensures.value) c.silent.ensures
