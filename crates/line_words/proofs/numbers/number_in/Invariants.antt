use Rattle.std.proofs.Common.{◌≡◌, ◌≤◌, drop}
use Rattle.line_words.specs.Numbers.{number_in}
use Rattle.line_words.proofs.DigitLemmas.{number_after}
use Rattle.line_words.proofs.numbers.number_in.Given as goal

-- Invariant: the value of the word is the value of the number so far after the remaining digits are appended.
abbrev pub invariant-digits : goal.invariant-digits
invariant-digits l = record {
  same : number_in l.radix l.most l.word ≡ number_after l.radix l.most l.number (drop l.byte-index l.word);
  below : l.number ≤ l.most;
}
