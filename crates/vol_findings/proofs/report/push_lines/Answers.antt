use Rattle.std.proofs.Common.{List, ◌++◌, ap, ◌∙◌, arith}
use Rattle.std.specs.List.{flat_map}
use Rattle.std.specs.String.{string_bytes}
use Rattle.std.proofs.lemmas.List.{take_all}
use Rattle.vol_findings.specs.Reports.{line_text, lines_text}
use Rattle.vol_findings.specs.declared.report.RuleLine.{RuleLine}
use Rattle.vol_findings.proofs.report.push_lines.Goals as goal

pub returns : goal.returns
unfolding lines_text
returns c =
    c.loop-line.invariant
    ∙ ap (λ (lines : List RuleLine). string_bytes c.args.text.now ++ flat_map line_text lines) (take_all c.loop-line.line-index c.args.lines.now (omega arith))
