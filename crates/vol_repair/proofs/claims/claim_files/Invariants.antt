use Rattle.vol_judge.proofs.AllBlocks.{files_from}
use Rattle.vol_repair.specs.Claims.{HasMet}
use Rattle.vol_repair.specs.Told.{IsNotFit}
use Rattle.vol_repair.proofs.claims.claim_files.Given as goal

-- Invariant: the blocks of the files up to `before` are claimed, and the files with a mark don't fit.
abbrev pub invariant-loop-before : goal.invariant-loop-before
invariant-loop-before l = record {
  met : HasMet l.used (files_from l.geometry l.image l.before);
  marked : IsNotFit l.geometry l.image l.unfit;
}
