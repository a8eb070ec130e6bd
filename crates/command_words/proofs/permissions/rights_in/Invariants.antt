use Rattle.std.proofs.Common.{◌≡◌, length}
use Rattle.command_words.specs.Permissions.{rights_with}
use Rattle.command_words.proofs.permissions.rights_in.Given as goal

-- Invariant: the bits of the letters are the bits so far, with those of the remaining letters.
abbrev pub invariant-letters : goal.invariant-letters
invariant-letters l = rights_with 0 l.letters ≡ rights_with l.rights l.rest

abbrev pub decreases-letters : goal.decreases-letters
decreases-letters l = length l.rest
