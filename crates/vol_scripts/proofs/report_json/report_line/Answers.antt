use Rattle.std.proofs.Common.{◌≡◌, ◌++◌, codes, map, IfOk, ap, subst, ◌∙◌}
use Rattle.std.specs.String.{string_bytes}
use Rattle.serde_json.specs.Data.{Data}
use Rattle.serde_json.specs.View.{view}
use Rattle.serde_json.specs.Written.{compact_text, has_float}
use Rattle.vol_scripts.proofs.ReportWhole.{report_whole}
use Rattle.vol_scripts.proofs.report_json.report_line.Goals as goal

pub line-requires : goal.line-requires
line-requires c =
    ap has_float c.in_ok-value.ensures
    ∙ report_whole (map view c.args.lines.items) c.args.totals.records c.args.totals.agree c.args.totals.gone c.args.journal c.args.records.now c.requires

pub returns : goal.returns
returns c =
    subst (λ (d : Data). IfOk c.line.result (λ text. string_bytes text ≡ compact_text d ++ codes "\n")) c.in_ok-value.ensures c.line.ensures
