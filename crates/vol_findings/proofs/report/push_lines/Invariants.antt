use Rattle.std.proofs.Common.{◌≡◌, ◌++◌, take}
use Rattle.std.specs.List.{flat_map}
use Rattle.std.specs.String.{string_bytes}
use Rattle.vol_findings.specs.Reports.{line_text}
use Rattle.vol_findings.proofs.report.push_lines.Given as goal

-- Invariant: the lines so far have been added.
abbrev pub invariant-loop-line : goal.invariant-loop-line
invariant-loop-line l = string_bytes l.text ≡ string_bytes l.initial.text ++ flat_map line_text (take l.line-index l.lines)
