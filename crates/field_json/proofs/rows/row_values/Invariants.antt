use Rattle.std.proofs.Common.{◌≡◌, map, take}
use Rattle.serde_json.specs.View.{view}
use Rattle.field_json.specs.Rows.{row_data}
use Rattle.field_json.proofs.rows.row_values.Given as goal

-- Invariant: the values of the rows so far have been added.
abbrev pub invariant-loop-row : goal.invariant-loop-row
invariant-loop-row l = map view l.values.items ≡ map (row_data l.geometry l.roles l.image) (take l.row-index l.rows)
