use Rattle.std.proofs.Common.{◌+◌, arith}
use Rattle.pdp_words.specs.Words.{SameOutside}
use Rattle.pdp_words.proofs.Outside.{join}
use Rattle.vol_layout.specs.Super.{cache_head}
use Rattle.vol_free.proofs.IList.{last_below}
use Rattle.vol_free.proofs.i_numbers.take_listed.Goals as goal
use Rattle.vol_free.proofs.i_numbers.take_listed.Goals.{else-loop-i-test, then-loop-i-test+then-count-eq-CACHE_SLOTS, then-loop-i-test+else-count-eq-CACHE_SLOTS+else-i-last, then-is_free_inode, else-is_free_inode}

pub overflow_step-i-in-loop-i : goal.overflow_step-i-in-loop-i
overflow_step-i-in-loop-i c = omega (arith, last_below c.requires)

pub returns-clause-others : goal.returns-clause-others
returns-clause-others c =
    let same : SameOutside c.args.image.now c.loop-i-test.image (cache_head c.args.geometry.now.edition) (cache_head c.args.geometry.now.edition + 202) =
    elim c.loop-i-test.branch [
      | else-loop-i-test w ↦ rw w.image-is c.loop-i.invariant.same
      | then-loop-i-test+then-count-eq-CACHE_SLOTS w ↦ rw w.image-is c.loop-i.invariant.same
      | then-loop-i-test+else-count-eq-CACHE_SLOTS+else-i-last w ↦ elim w.if-is_free_inode.branch [
        | then-is_free_inode v ↦ rw (w.image-is, v.image-is) (join c.loop-i.invariant.same v.put_cached.ensures.others (omega arith) (omega arith) (omega arith) (omega arith))
        | else-is_free_inode v ↦ rw (w.image-is, v.image-is) c.loop-i.invariant.same
      ]
    ] in
    join same c.put_cache_count.ensures.others (omega arith) (omega arith) (omega arith) (omega arith)
