use Rattle.std.proofs.Common.{◌*◌, ◌+◌, subst, arith}
use Rattle.vol_compare.specs.Bodies.{IsFirstUnequal, byte_in}
use Rattle.vol_compare.proofs.BodyDifferences.{agree_on, agree_in, unequal_at}
use Rattle.vol_compare.proofs.bodies.first_unequal.Goals as goal

pub returns-then-next-blocks : goal.returns-then-next-blocks
returns-then-next-blocks c = λ n h.
    agree_on c.args.old c.args.new c.loop-b.b c.next_stored-before.result c.next_stored-after.result c.min-next.result c.args.common n
    c.requires.old_fits c.requires.new_fits c.loop-b.invariant.agree c.next_stored-before.ensures.hole c.next_stored-after.ensures.hole
    (omega arith) (omega arith) h (omega arith)

pub returns-in-Some : goal.returns-in-Some
returns-in-Some c =
    let next = c.min-next.result in
    let count = c.min-count.result in
    unequal_at c.args.old c.args.new next count c.args.common c.in-Some.r
    (λ n h low. agree_on c.args.old c.args.new c.loop-b.b c.next_stored-before.result c.next_stored-after.result next c.args.common n
    c.requires.old_fits c.requires.new_fits c.loop-b.invariant.agree c.next_stored-before.ensures.hole c.next_stored-after.ensures.hole
    (omega arith) (omega arith) h low)
    (omega arith)
    (subst (IsFirstUnequal (λ r. byte_in c.args.old (512 * next + r)) (λ r. byte_in c.args.new (512 * next + r)) count) c.in-Some.is c.unequal_in_block.ensures)

pub loop-b-preserved : goal.loop-b-preserved
loop-b-preserved c =
    let next = c.min-next.result in
    let count = c.min-count.result in
    record {
      within = omega arith;
      old_within = c.next_stored-before.ensures.within;
      new_within = c.next_stored-after.ensures.within;
      agree = λ n h low. agree_in c.args.old c.args.new next count c.args.common n
          (λ m a b. agree_on c.args.old c.args.new c.loop-b.b c.next_stored-before.result c.next_stored-after.result next c.args.common m
          c.requires.old_fits c.requires.new_fits c.loop-b.invariant.agree c.next_stored-before.ensures.hole c.next_stored-after.ensures.hole
          (omega arith) (omega arith) a b)
          (subst (IsFirstUnequal (λ r. byte_in c.args.old (512 * next + r)) (λ r. byte_in c.args.new (512 * next + r)) count) c.in_default.is c.unequal_in_block.ensures)
          h (omega (arith, h, low));
      old_hole = λ k low high. c.next_stored-before.ensures.hole k (omega (arith, low)) high;
      new_hole = λ k low high. c.next_stored-after.ensures.hole k (omega (arith, low)) high;
    }
