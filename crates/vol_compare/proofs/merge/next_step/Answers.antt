use Rattle.std.proofs.Common.{◌∙◌, sym}
use Rattle.vol_compare.proofs.MergeSteps.{step_equal, step_greater, step_less}
use Rattle.vol_compare.proofs.merge.next_step.Goals as goal

pub returns-in-Less-clause-rest : goal.returns-in-Less-clause-rest
returns-in-Less-clause-rest c = λ times.
    step_less times c.args.old.now c.args.new.now c.args.i c.args.j c.index.result.now (c.next_order.ensures.less c.in-Less.is) c.index.ensures
    (sym (c.next_order.ensures.order times) ∙ c.in-Less.is)

pub returns-in-Greater-clause-rest : goal.returns-in-Greater-clause-rest
returns-in-Greater-clause-rest c = λ times.
    step_greater times c.args.old.now c.args.new.now c.args.i c.args.j c.index-in-Greater.result.now (c.next_order.ensures.greater c.in-Greater.is)
    c.index-in-Greater.ensures (sym (c.next_order.ensures.order times) ∙ c.in-Greater.is)

pub returns-in-Equal-clause-rest : goal.returns-in-Equal-clause-rest
returns-in-Equal-clause-rest c = λ times.
    step_equal times c.args.old.now c.args.new.now c.args.i c.args.j c.index-in-Equal.result.now c.index-in-Equal-2.result.now
    (c.next_order.ensures.equal_old c.in-Equal.is) c.index-in-Equal.ensures (c.next_order.ensures.equal_new c.in-Equal.is) c.index-in-Equal-2.ensures
    (sym (c.next_order.ensures.order times) ∙ c.in-Equal.is)
