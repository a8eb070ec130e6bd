use Rattle.std.proofs.Common.{◌+◌, refl, arith, rules}
use Rattle.vol_judge.proofs.Decisions.{holds, fails}
use Rattle.vol_judge.proofs.Countings.{links_hold, links_each, counted, uncounted, links_more}
use Rattle.vol_judge.proofs.directories.links.find_link.Goals as goal

pub loop-i-preserved : goal.loop-i-preserved
loop-i-preserved c =
    let g = c.args.geometry.now in
    let image = c.args.image.now in
    links_more g image c.args.counts.now c.requires.counts c.loop-i.i c.loop-i.invariant
    (counted g image c.args.counts.now c.requires.counts c.loop-i.i (omega arith) _ refl
    (holds c.is_counted.result c.is_counted.ensures c.if-not-is_counted.false))

pub returns-then-not-is_counted : goal.returns-then-not-is_counted
returns-then-not-is_counted c =
    let g = c.args.geometry.now in
    let image = c.args.image.now in
    let wrong = uncounted g image c.args.counts.now c.requires.counts c.loop-i.i (omega arith) _ refl
    (fails c.is_counted.result c.is_counted.ensures c.if-not-is_counted.true) in (
      record {
        first = c.loop-i.auto.i;
        last = omega arith;
        count = c.requires.counts.count c.loop-i.i (omega arith);
        own = search rules;
        wrong = wrong;
        before = c.loop-i.invariant;
      },
      λ rule. wrong (links_each g image c.args.counts.now c.requires.counts rule c.loop-i.i c.loop-i.auto.i (omega arith)),
    )

pub returns-else-not-is_counted : goal.returns-else-not-is_counted
returns-else-not-is_counted c =
    let g = c.args.geometry.now in
    let image = c.args.image.now in
    links_hold g image c.args.counts.now c.requires.counts (c.loop-i.i + 1) (omega arith)
    (links_more g image c.args.counts.now c.requires.counts c.loop-i.i c.loop-i.invariant
    (counted g image c.args.counts.now c.requires.counts c.loop-i.i (omega arith) _ refl
    (holds c.is_counted.result c.is_counted.ensures c.if-not-is_counted.false)))
