use Rattle.std.proofs.Common.{◌-◌, ◌≤◌, take}
use Rattle.sha2.specs.Hashers.{Holds256}
use Rattle.vol_layout.specs.Body.{body, body_size}
use Rattle.vol_listing.proofs.sums.sum_of_body.Given as goal

-- Invariant: the hasher has the first `hashed` bytes of the body.
abbrev pub invariant-pieces : goal.invariant-pieces
invariant-pieces l = (l.hashed ≤ body_size l.geometry l.image l.i) × Holds256 l.hasher (take l.hashed (body l.geometry l.image l.i))

abbrev pub decreases-pieces : goal.decreases-pieces
decreases-pieces l = body_size l.geometry l.image l.i - l.hashed
