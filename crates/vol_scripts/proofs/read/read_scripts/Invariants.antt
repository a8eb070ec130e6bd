use Rattle.std.proofs.Common.{◌≡◌, ◌≤◌, ◌+◌, drop, length}
use Rattle.vol_scripts.specs.Scripts.{scripts_in, scripts_from}
use Rattle.vol_scripts.proofs.ReadingLemmas.{after_scripts}
use Rattle.vol_scripts.proofs.read.read_scripts.Given as goal

-- Invariant: the scripts so far, followed by the remaining ones, are all scripts; at most 16 of the scripts so far are for views.
abbrev pub invariant-scripts : goal.invariant-scripts
invariant-scripts l = record {
  most : l.views ≤ 16;
  all : scripts_in l.scripts ≡ after_scripts l.read.items (scripts_from (length l.read.items + 1) l.views (drop l.script-index l.scripts));
}
