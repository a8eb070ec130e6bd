use Rattle.std.proofs.Common.{◌≡◌, ◌+◌, ◌++◌, drop}
use Rattle.std.specs.String.{string_bytes}
use Rattle.vol_scripts.specs.Report.{lines_text}
use Rattle.vol_scripts.proofs.report.push_lines.Given as goal

-- Invariant: the appended lines, followed by the lines of the remaining steps, are the lines of all steps.
abbrev pub invariant-steps : goal.invariant-steps
invariant-steps l = record {
  line : l.line ≡ l.came-index + 1;
  text : string_bytes l.text ++ lines_text l.script l.line (drop l.came-index l.played) ≡ string_bytes l.fn.text ++ lines_text l.script 1 l.played;
}
