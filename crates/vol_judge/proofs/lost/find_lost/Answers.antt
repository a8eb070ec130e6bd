use Rattle.std.proofs.Common.{arith}
use Rattle.vol_judge.proofs.MarksCompared.{first_lost, none_lost}
use Rattle.vol_judge.proofs.lost.find_lost.Goals as goal

pub returns-then-not-free-b : goal.returns-then-not-free-b
returns-then-not-free-b c = λ image fits marks set.
    first_lost c.args.named.now c.args.free.now c.loop-b.b fits marks set c.loop-b.auto.b c.loop-b-test.true c.if-named-b-eq0.true c.if-not-free-b.true
    c.loop-b.invariant

pub returns : goal.returns
returns c = λ image fits marks set.
    none_lost c.args.named.now c.args.free.now fits marks set (λ k from below. c.loop-b.invariant k from (omega (arith, below, c.loop-b-test.false)))
