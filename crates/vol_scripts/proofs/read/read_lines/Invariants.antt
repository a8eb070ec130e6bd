use Rattle.std.proofs.Common.{◌≡◌, ◌+◌, length}
use Rattle.vol_scripts.specs.Scripts.{asked_from, asked_in}
use Rattle.vol_scripts.proofs.ReadingLemmas.{after}
use Rattle.vol_scripts.proofs.read.read_lines.Given as goal

-- Invariant: the steps of the text are the steps so far, followed by the steps of the remaining lines.
abbrev pub invariant-lines : goal.invariant-lines
invariant-lines g l = asked_in g.A.FromLine.written l.command l.first l.text ≡ after l.asked.items (asked_from g.A.FromLine.written l.command (length l.asked.items + l.first) l.lines)

abbrev pub decreases-lines : goal.decreases-lines
decreases-lines g l = length l.lines
