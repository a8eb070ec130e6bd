use Rattle.std.proofs.Common.{◌≡◌, ◌≤◌, take, count_by}
use Rattle.vol_play.specs.Players.{is_view}
use Rattle.vol_play.proofs.performance.count_views.Given as goal

-- Invariant: the scripts so far have been counted.
abbrev pub invariant-loop-script : goal.invariant-loop-script
invariant-loop-script l = record {
  counted : l.count ≡ count_by is_view (take l.script-index l.scripts);
  few : l.count ≤ l.script-index;
}
