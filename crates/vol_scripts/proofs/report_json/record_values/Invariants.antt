use Rattle.std.proofs.Common.{◌≡◌, map, take}
use Rattle.serde_json.specs.View.{view}
use Rattle.vol_scripts.specs.ReportJson.{record_data}
use Rattle.vol_scripts.proofs.report_json.record_values.Given as goal

-- Invariant: the calls so far have been added.
abbrev pub invariant-records : goal.invariant-records
invariant-records l = map view l.values.items ≡ map record_data (take l.entry-index l.records)
