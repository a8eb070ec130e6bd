use Rattle.std.proofs.Common.{◌∙◌, sym, ap, arith}
use Rattle.vol_compare.specs.Merge.{path_order}
use Rattle.vol_compare.proofs.MergeSteps.{order_both, order_greater, order_less}
use Rattle.vol_compare.proofs.merge.next_order.Goals as goal

pub returns-then-i-len-clause-order : goal.returns-then-i-len-clause-order
returns-then-i-len-clause-order c = λ times. sym (order_greater times c.args.old.now c.args.new.now c.args.i c.args.j (omega arith))

pub returns-then-j-len-clause-order : goal.returns-then-j-len-clause-order
returns-then-j-len-clause-order c = λ times. sym (order_less times c.args.old.now c.args.new.now c.args.i c.args.j (omega arith) (omega arith))

pub returns-clause-order : goal.returns-clause-order
returns-clause-order c = λ times.
    c.path_order.ensures
    ∙ (ap (λ path. path_order path c.as_slice-2.result.now) c.as_slice.ensures
    ∙ (ap (path_order c.index.result.now.path) c.as_slice-2.ensures
    ∙ sym (order_both times c.args.old.now c.args.new.now c.args.i c.args.j c.index.result.now c.index-2.result.now (omega arith) c.index.ensures (omega arith) c.index-2.ensures)))
