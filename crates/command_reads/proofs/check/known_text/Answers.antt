use Rattle.std.proofs.Common.{◌≡◌, List, IfOk, subst}
use Rattle.std.specs.String.{string_bytes}
use Rattle.command_reads.specs.CheckJson.{report_json}
use Rattle.vol_findings.specs.declared.report.RuleLine.{RuleLine}
use Rattle.command_reads.proofs.check.known_text.Goals as goal

pub returns-in-Json : goal.returns-in-Json
returns-in-Json c =
    rw c.in-Json.is
    (subst (λ (lines : List RuleLine). IfOk c.report_json.result (λ text. string_bytes text ≡ report_json c.args.edition c.args.image.now lines))
    c.lines_of-lines.ensures c.report_json.ensures)
