use Rattle.std.proofs.Common.{◌≡◌, length}
use Rattle.name_patterns.specs.Like.{last_name}
use Rattle.name_patterns.proofs.last_name.Given as goal

-- Invariant: the last name of the path is the last name of the rest or, if this has no slash, the current name.
abbrev pub invariant-bytes : goal.invariant-bytes
invariant-bytes l = last_name l.name l.rest ≡ last_name l.fn.path l.fn.path

abbrev pub decreases-bytes : goal.decreases-bytes
decreases-bytes l = length l.rest
