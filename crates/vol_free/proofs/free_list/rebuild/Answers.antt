use Rattle.std.proofs.Common.{◌≡◌, ◌-◌, ◌≤◌, [], ◌∷◌, refl, arith, rules}
use Rattle.vol_free.specs.Rebuild.{unused_from}
use Rattle.vol_free.proofs.Stacks.{zone_behind, IsFree_unique}
use Rattle.vol_free.proofs.Frames.{IsFree-none}
use Rattle.vol_free.proofs.RebuildSteps.{unused_given, unused_kept, unused_end, unused_in, keeps_start, keeps_given}
use Rattle.vol_free.proofs.free_list.rebuild.Goals as goal

pub loop-b-init : goal.loop-b-init
loop-b-init c =
    let two : 2 ≤ c.args.geometry.now.zone_start = zone_behind c.requires.fits in
    let none : unused_from c.args.geometry.now c.args.used.now c.args.geometry.now.zone_end ≡ [] =
    unused_end c.args.geometry.now c.args.used.now c.args.geometry.now.zone_end refl in
    record {
      low = omega arith;
      fits = search rules;
      free = rw none (IsFree-none c.args.geometry.now c.put_free_count.new.image c.put_free_count.ensures.put);
      keeps = keeps_start two (omega arith) c.put_free_count.ensures.others;
    }

pub give-requires-clause-fresh : goal.give-requires-clause-fresh
give-requires-clause-fresh c = λ blocks free i.
    let two : 2 ≤ c.args.geometry.now.zone_start = zone_behind c.requires.fits in
    let same : blocks ≡ unused_from c.args.geometry.now c.args.used.now c.loop-b.b = IsFree_unique (omega arith) free c.loop-b.invariant.free in
    let there = rw same at i in
    let all = unused_in c.args.geometry.now c.args.used.now c.loop-b.b (c.loop-b.b - 1) (omega arith) there in
    omega (arith, all.0)

pub loop-b-preserved-then-not-used-b : goal.loop-b-preserved-then-not-used-b
loop-b-preserved-then-not-used-b c =
    let two : 2 ≤ c.args.geometry.now.zone_start = zone_behind c.requires.fits in
    let given : unused_from c.args.geometry.now c.args.used.now (c.loop-b.b - 1)
    ≡ (c.loop-b.b - 1) ∷ unused_from c.args.geometry.now c.args.used.now c.loop-b.b =
    unused_given c.args.geometry.now c.args.used.now (c.loop-b.b - 1) c.loop-b.b (omega arith) (omega arith) c.if-not-used-b.true in
    record {
      low = omega arith;
      fits = c.give.ensures.fits;
      free = rw given (c.give.ensures.pushed _ c.loop-b.invariant.free);
      keeps = keeps_given (c.loop-b.b - 1) two (omega arith) (omega arith) c.if-not-used-b.true c.loop-b.invariant.keeps c.give.ensures.others;
    }

pub loop-b-preserved : goal.loop-b-preserved
loop-b-preserved c =
    let kept : unused_from c.args.geometry.now c.args.used.now (c.loop-b.b - 1)
    ≡ unused_from c.args.geometry.now c.args.used.now c.loop-b.b =
    unused_kept c.args.geometry.now c.args.used.now (c.loop-b.b - 1) c.loop-b.b (omega arith) (omega arith) c.if-not-used-b.false in
    record {
      low = omega arith;
      fits = c.loop-b.invariant.fits;
      free = rw kept c.loop-b.invariant.free;
      keeps = c.loop-b.invariant.keeps;
    }

pub returns-clause-free : goal.returns-clause-free
returns-clause-free c =
    let start : c.loop-b.b ≡ c.args.geometry.now.zone_start = omega (arith, c.loop-b.invariant.low) in
    rw start at c.loop-b.invariant.free
