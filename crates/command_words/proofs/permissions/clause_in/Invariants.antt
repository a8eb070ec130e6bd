use Rattle.std.proofs.Common.{◌≡◌, length}
use Rattle.command_words.specs.Permissions.{clause_after}
use Rattle.command_words.proofs.permissions.clause_in.Given as goal

-- Invariant: the change of the clause is that of its remaining letters, after those of WHO so far.
abbrev pub invariant-letters : goal.invariant-letters
invariant-letters l = clause_after 0 l.clause ≡ clause_after l.who l.rest

abbrev pub decreases-letters : goal.decreases-letters
decreases-letters l = length l.rest
