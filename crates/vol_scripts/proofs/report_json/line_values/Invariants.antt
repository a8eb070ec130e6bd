use Rattle.std.proofs.Common.{◌≡◌, ◌+◌, ◌++◌, drop, map}
use Rattle.serde_json.specs.View.{view}
use Rattle.vol_scripts.specs.ReportJson.{scripts_data}
use Rattle.vol_scripts.proofs.report_json.line_values.Given as goal

-- Invariant: the objects so far, followed by those of the remaining scripts, are the objects of all scripts.
abbrev pub invariant-scripts : goal.invariant-scripts
invariant-scripts l = record {
  number : l.number ≡ l.played-index + 1;
  values : map view l.values.items ++ scripts_data l.number (drop l.played-index l.scripts) ≡ scripts_data 1 l.scripts;
}
