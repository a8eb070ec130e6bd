use Rattle.std.proofs.Common.{◌≡◌, ◌++◌, take}
use Rattle.std.specs.List.{flat_map}
use Rattle.vol_reports.specs.Texts.{line_text}
use Rattle.vol_reports.proofs.report.Report.push_text.Given as goal

-- Invariant: the text of the lines so far has been added.
abbrev pub invariant-loop-line : goal.invariant-loop-line
invariant-loop-line l = l.text.items ≡ l.initial.text.items ++ flat_map line_text (take l.line-index l.line-items)
