use Rattle.std.proofs.Common.{◌≡◌, ◌++◌, map, All}
use Rattle.vol_play.specs.Players.{IsPrepared}
use Rattle.vol_play.proofs.prepare.prepare.Given as goal

-- Invariant: the scripts so far, followed by the remaining ones, are all scripts.
abbrev pub invariant-scripts : goal.invariant-scripts
invariant-scripts l = record {
  scripts : map (λ p. p.script) l.prepared.items ++ l.script-iterator.rest.items ≡ l.fn.scripts.items;
  ready : All IsPrepared l.prepared.items;
}
