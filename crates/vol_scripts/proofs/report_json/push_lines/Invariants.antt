use Rattle.std.proofs.Common.{◌≡◌, ◌+◌, ◌++◌, drop, map}
use Rattle.serde_json.specs.View.{view}
use Rattle.vol_scripts.specs.ReportJson.{lines_data}
use Rattle.vol_scripts.proofs.report_json.push_lines.Given as goal

-- Invariant: the objects so far, followed by those of the remaining steps, are the objects of all steps.
abbrev pub invariant-steps : goal.invariant-steps
invariant-steps l = record {
  line : l.line ≡ l.came-index + 1;
  values : map view l.values.items ++ lines_data l.script l.line (drop l.came-index l.played) ≡ map view l.fn.values.items ++ lines_data l.script 1 l.played;
}
