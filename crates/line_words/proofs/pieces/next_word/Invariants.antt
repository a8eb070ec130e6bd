use Rattle.std.proofs.Common.{◌≡◌, length}
use Rattle.line_words.specs.Pieces.{words_of}
use Rattle.line_words.proofs.pieces.next_word.Given as goal

-- Invariant: the words are those of the remaining pieces.
abbrev pub invariant-pieces : goal.invariant-pieces
invariant-pieces l = words_of l.initial.pieces ≡ words_of l.pieces

abbrev pub decreases-pieces : goal.decreases-pieces
decreases-pieces l = length l.pieces
