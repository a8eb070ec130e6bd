use Rattle.std.proofs.Common.{◌++◌, ap, ◌∙◌, arith}
use Rattle.std.specs.List.{flat_map}
use Rattle.std.proofs.lemmas.List.{take_all}
use Rattle.vol_reports.specs.Texts.{line_text, report_text}
use Rattle.vol_reports.proofs.report.Report.push_text.Goals as goal

pub returns : goal.returns
unfolding report_text
returns c =
    let lines = c.lines-line-items.result.now in
    c.loop-line.invariant
    ∙ ap (λ ls. c.args.text.now.items ++ flat_map line_text ls) (take_all c.loop-line.line-index lines (omega arith) ∙ c.lines-line-items.ensures)
