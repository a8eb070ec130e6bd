use Rattle.std.proofs.Common.{◌≡◌, ◌⊎◌, ◌∙◌, ◌-◌, sym, inl, inr, length, length-drop, arith}
use Rattle.vol_compare.proofs.PathOrders.{order_apart, order_ends, order_next}
use Rattle.vol_compare.proofs.merge.path_order.Goals as goal
use Rattle.vol_compare.proofs.merge.path_order.Goals.{then-loop-k-test+else-k-new, else-loop-k-test}

pub returns-then-old-k : goal.returns-then-old-k
returns-then-old-k c =
    c.byte_order.ensures
    ∙ sym (c.loop-k.invariant.rest ∙ order_apart c.args.old.now c.args.new.now c.loop-k.k (omega arith) (omega arith) c.if-old-k.true)

pub loop-k-preserved : goal.loop-k-preserved
loop-k-preserved c = record {
  old_within = omega arith;
  new_within = omega arith;
  rest = c.loop-k.invariant.rest ∙ order_next c.args.old.now c.args.new.now c.loop-k.k (omega arith) (omega arith) c.if-old-k.false;
}

pub returns : goal.returns
returns c =
    let old = c.args.old.now in
    let new = c.args.new.now in
    let k = c.loop-k.k in
    let none : (length old - k ≡ 0) ⊎ (length new - k ≡ 0) = elim c.loop-k-test.branch [
      | then-loop-k-test+else-k-new w ↦ inr (omega arith)
      | else-loop-k-test w ↦ inl (omega arith)
    ] in
    c.length_order.ensures ∙ sym (c.loop-k.invariant.rest ∙ order_ends old new k (length old - k) (length new - k) (length-drop k old) (length-drop k new) none)
