use Rattle.std.proofs.Common.{◌≡◌, take}
use Rattle.vol_repair.specs.Text.{lines_text}
use Rattle.vol_repair.proofs.text.text_of.Given as goal

-- Invariant: the text so far is that of the lines so far.
abbrev pub invariant-loop-line : goal.invariant-loop-line
invariant-loop-line l = l.text.items ≡ lines_text (take l.line-index l.lines)
