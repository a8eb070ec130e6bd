use Rattle.std.proofs.Common.{◌≡◌, length}
use Rattle.command_words.specs.Permissions.{changes_after, clauses_in}
use Rattle.command_words.proofs.permissions.clauses_in.Given as goal

-- Invariant: the change of the word is the change so far, and then those of the remaining clauses.
abbrev pub invariant-clauses : goal.invariant-clauses
invariant-clauses l = clauses_in l.word ≡ changes_after l.change l.clauses

abbrev pub decreases-clauses : goal.decreases-clauses
decreases-clauses l = length l.clauses
