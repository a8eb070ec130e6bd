use Rattle.std.proofs.Common.{List, ℕ, ◌≡◌, ◌++◌, ap, ◌∙◌}
use Rattle.std.specs.String.{string_bytes}
use Rattle.vol_findings.specs.Reports.{lines_text, lines_of, note_text}
use Rattle.vol_findings.specs.declared.report.RuleLine.{RuleLine}
use Rattle.vol_findings.proofs.report.report_text.Goals as goal

pub returns : goal.returns
returns c =
    let lines : string_bytes c.push_lines.new.text ≡ lines_text (lines_of c.args.found.now) = c.in_ok-push_lines.ensures
    ∙ (ap (λ (text : List ℕ). text ++ lines_text c.lines_of-lines.result) c.new-text.ensures.bytes
    ∙ ap (λ (all : List RuleLine). lines_text all) c.lines_of-lines.ensures) in
    c.in_ok-push_note.ensures ∙ ap (λ (text : List ℕ). text ++ note_text c.args.edition c.args.image.now) lines
