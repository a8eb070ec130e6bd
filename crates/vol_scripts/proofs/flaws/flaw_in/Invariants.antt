use Rattle.std.proofs.Common.{◌≡◌, ◌+◌, length}
use Rattle.vol_scripts.specs.Flaws.{flaw_from, flaw_in}
use Rattle.line_words.proofs.PieceLemmas.{space}
use Rattle.vol_scripts.proofs.flaws.flaw_in.Given as goal

-- Invariant: the first flaw of the line is the first flaw of the remaining words, and they end where the line ends.
abbrev pub invariant-words : goal.invariant-words
invariant-words l = record {
  flaw : flaw_in l.fn.command l.line ≡ flaw_from l.at l.wanted l.words;
  within : l.at + space l.words ≡ length l.line + 1;
}

abbrev pub decreases-words : goal.decreases-words
decreases-words l = length l.words
