-- Invariant: the i-nodes before `i` are written, and all other bytes are unchanged.
use Rattle.std.proofs.Common.{◌*◌}
use Rattle.pdp_words.specs.Words.{SameOutside}
use Rattle.vol_migrate.specs.Stages.{HasInodesBelow}
use Rattle.vol_migrate.proofs.i_nodes.put_inodes.Given as goal

abbrev pub invariant-loop-i : goal.invariant-loop-i
invariant-loop-i l = record {
  put : HasInodesBelow l.fn.from l.fn.to l.fn.old l.fn.now l.image l.i;
  others : SameOutside l.fn.image l.image 1024 (512 * l.fn.to.zone_start);
}
