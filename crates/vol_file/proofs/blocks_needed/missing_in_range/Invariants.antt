use Rattle.std.proofs.Common.{◌≡◌, ◌-◌, ◌*◌, ◌≤◌, ◌⊎◌}
use Rattle.vol_file.specs.Shape.{is_named}
use Rattle.vol_file.specs.MissingBlocks.{missing_from, grown_form, grown_names}
use Rattle.vol_file.proofs.blocks_needed.missing_in_range.Given as goal

-- Invariant: the logical blocks below `b` have been counted.
abbrev pub invariant-loop-b : goal.invariant-loop-b
invariant-loop-b l = record {
  exact : l.missing ≡ missing_from (grown_form l.form l.grows) (grown_names (is_named l.geometry l.image l.i) l.grows) l.first (l.b - l.first);
  few : l.missing ≤ 4 * (l.b - l.first);
  within : (l.b ≤ l.b-end) ⊎ (l.b ≡ l.first);
}
