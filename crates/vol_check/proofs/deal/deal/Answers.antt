use Rattle.std.proofs.Common.{ap, arith, rules}
use Rattle.vol_check.proofs.deal.deal.Goals as goal

pub loop-k-init : goal.loop-k-init
loop-k-init c = record {
  own = c.requires.own;
  parts = let e = ap (λ v. v.parts) c.requires.all in omega (arith, e);
  draws = ap (λ v. v.draws) c.requires.all;
  marks = ap (λ v. v.marks) c.requires.all;
  times = ap (λ v. v.times) c.requires.all;
  fresh = search rules;
  len = search rules;
}

pub loop-k-preserved : goal.loop-k-preserved
loop-k-preserved c = record {
  own = c.split-seat.ensures.own.0;
  parts = let e = ap (λ v. v.parts) c.split-seat.ensures.kept in let p = c.loop-k.invariant.parts in let t = c.loop-k-test.true in omega (arith, e, p, t);
  draws = ap (λ v. v.draws) c.split-seat.ensures.kept;
  marks = ap (λ v. v.marks) c.split-seat.ensures.kept;
  times = ap (λ v. v.times) c.split-seat.ensures.kept;
  fresh = search rules;
  len = let p = c.in_ok-push_seat.ensures.len in let q = c.loop-k.invariant.len in omega (arith, p, q);
}
