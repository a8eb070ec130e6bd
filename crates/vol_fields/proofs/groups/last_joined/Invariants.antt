use Rattle.std.proofs.Common.{◌≡◌, ◌+◌, ◌-◌, length}
use Rattle.vol_fields.specs.Groups.{last_joined}
use Rattle.vol_fields.proofs.groups.last_joined.Given as goal

-- Invariant: the entries up to `last` belong to the first.
abbrev pub invariant-loop-step : goal.invariant-loop-step
invariant-loop-step l = record {
  place : l.last ≡ l.k + l.step;
  same : last_joined l.joins (length l.joins - l.k - 1) l.k ≡ last_joined l.joins (length l.joins - l.k - 1 - l.step) l.last;
}
