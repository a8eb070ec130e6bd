use Rattle.std.proofs.Common.{◌≡◌, ◌+◌, ◌++◌, drop}
use Rattle.std.specs.String.{string_bytes}
use Rattle.vol_scripts.specs.Endings.{scripts_text}
use Rattle.vol_scripts.proofs.ending.lines_of.Given as goal

-- Invariant: the appended lines, followed by the lines of the remaining scripts, are the lines of all scripts.
abbrev pub invariant-scripts : goal.invariant-scripts
invariant-scripts l = record {
  number : l.number ≡ l.played-index + 1;
  text : string_bytes l.text ++ scripts_text l.number (drop l.played-index l.scripts) ≡ scripts_text 1 l.scripts;
}
