use Rattle.vol_judge.proofs.FileBlocks.{addresses_from}
use Rattle.vol_repair.specs.Claims.{Claims}
use Rattle.vol_repair.proofs.claims.claim_file.Given as goal

-- Invariant: the blocks at and below the i-node's addresses before k are claimed.
abbrev pub invariant-loop-k : goal.invariant-loop-k
invariant-loop-k l = Claims l.geometry (addresses_from l.geometry l.image l.i l.k) l.fn.used l.used l.clash
