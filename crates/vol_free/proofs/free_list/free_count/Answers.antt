use Rattle.std.proofs.Common.{◌≤◌, arith}
use Rattle.vol_free.proofs.Stacks.{zone_below, zone_behind, limit_below}
use Rattle.vol_free.proofs.ChainWalks.{left_within, left_next, left_last, left_none}
use Rattle.vol_free.proofs.free_list.free_count.Goals as goal

pub overflow_add-result : goal.overflow_add-result
overflow_add-result c =
    let low : 2 ≤ c.args.geometry.now.zone_start = zone_behind c.requires.fits in
    let limit = limit_below c.requires.fits in
    let left = c.loop-count.invariant.left c.requires.stack.blocks c.requires.stack.free in
    omega (arith, left_within c.requires.stack.free left, limit, c.loop-count.auto.count-fits, c.from.ensures)

pub returns-then-chained-eq0 : goal.returns-then-chained-eq0
returns-then-chained-eq0 c = λ blocks free.
    let low : 2 ≤ c.args.geometry.now.zone_start = zone_behind c.requires.fits in
    let last = left_last c.number-chained.result (c.loop-count.invariant.left blocks free) (omega arith) (omega arith)
    c.number-chained.ensures c.if-chained-eq0.true in
    omega (arith, last, c.from.ensures)

pub overflow_add-total : goal.overflow_add-total
overflow_add-total c =
    let limit = limit_below c.requires.fits in
    let left = c.loop-count.invariant.left c.requires.stack.blocks c.requires.stack.free in
    omega (arith, left_within c.requires.stack.free left, limit, c.loop-count.auto.count-fits, c.from-total.ensures)

pub word-count-requires : goal.word-count-requires
word-count-requires c =
    let left = c.loop-count.invariant.left c.requires.stack.blocks c.requires.stack.free in
    let next = left_next c.number-chained.result left (omega arith) c.number-chained.ensures c.if-chained-eq0.false in
    omega (arith, zone_below c.args.geometry.now c.number-chained.result next.zone, c.requires.fits.blocks)

pub loop-count-smaller : goal.loop-count-smaller
loop-count-smaller c =
    let left = c.loop-count.invariant.left c.requires.stack.blocks c.requires.stack.free in
    let next = left_next c.number-chained.result left (omega arith) c.number-chained.ensures c.if-chained-eq0.false in
    omega (arith, left_within c.requires.stack.free next.left, c.from-total.ensures)

pub loop-count-preserved : goal.loop-count-preserved
loop-count-preserved c =
    let left = c.loop-count.invariant.left c.requires.stack.blocks c.requires.stack.free in
    let next = left_next c.number-chained.result left (omega arith) c.number-chained.ensures c.if-chained-eq0.false in
    record {
      few = omega (arith, next.few, c.word-count.ensures);
      room = omega (arith, zone_below c.args.geometry.now c.number-chained.result next.zone, c.requires.fits.blocks);
      left = λ blocks free.
          let then = left_next c.number-chained.result (c.loop-count.invariant.left blocks free) (omega arith) c.number-chained.ensures c.if-chained-eq0.false in
          rw (c.word-count.ensures, c.from-total.ensures) then.left;
    }

pub returns : goal.returns
returns c = λ blocks free.
    let low : 2 ≤ c.args.geometry.now.zone_start = zone_behind c.requires.fits in
    left_none (c.loop-count.invariant.left blocks free) (omega arith) (omega arith)
