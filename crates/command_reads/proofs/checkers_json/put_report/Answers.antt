use Rattle.std.proofs.Common.{◌∙◌, ◌++◌, List, ap, codes, sym}
use Rattle.vol_archive.proofs.Outputs.{cut_front, cut_same, handed_on}
use Rattle.command_reads.proofs.PrintedPieces.{writes_same, writes_then}
use Rattle.command_reads.specs.CheckersJson.{checker_json, line_data, report_front}
use Rattle.vol_reports.specs.declared.line.Line.{Line}
use Rattle.command_reads.specs.Json.{listed_text}
use Rattle.command_reads.proofs.ListTexts.{report_pieces}
use Rattle.command_reads.proofs.checkers_json.put_report.Goals as goal

pub returns-in_err-put : goal.returns-in_err-put
returns-in_err-put g c =
    let report = c.args.report.now in
    let lines = listed_text line_data report ++ codes "]}\n" in
    let front = c.report_front.result.now in
    handed_on _ _ _ _ _ _ c.in_err-put.field-0.0 c.from_residual.ensures
    (cut_same _ _ _ (front ++ lines) (checker_json report) _ (sym (ap (λ text. text ++ lines) c.report_front.ensures ∙ report_pieces report))
    (cut_front _ _ _ front lines _ c.in_err-put.ensures))

pub returns : goal.returns
returns g c =
    let report = c.args.report.now in
    let lines = listed_text line_data c.lines.result.now ++ codes "]}\n" in
    let front = c.report_front.result.now in
    writes_same _ _ _ _ (front ++ lines) (checker_json report) _
    (ap (λ text. text ++ lines) c.report_front.ensures
    ∙ (ap (λ (rows : List Line). report_front report ++ (listed_text line_data rows ++ codes "]}\n")) c.lines.ensures ∙ report_pieces report))
    (writes_then _ _ _ _ _ _ front lines _ c.in_ok-put.ensures c.put_lines.ensures)
