-- If one is found, some i-number passes the test; if none is found, none does.
use Rattle.std.proofs.Common.{◌≡◌, ◌∙◌, sym, ap, ◌+◌, ◌-◌, arith}
use Rattle.std.specs.List.{list_any, range_with_len}
use Rattle.vol_dir.specs.Tree.{tree}
use Rattle.vol_migrate.specs.Refuse.{is_above_at}
use Rattle.vol_migrate.proofs.Refused.{any_from, none_more, above_is, above_low, above_none}
use Rattle.vol_migrate.proofs.refuse.has_above.Goals as goal
use Rattle.vol_migrate.proofs.refuse.has_above.Goals.{else-last-i-via-then-last-i+else-is_node, else-last-i-via-else-last-i}

pub returns-then-is_node : goal.returns-then-is_node
unfolding tree
returns-then-is_node c =
    sym (any_from (is_above_at (tree c.args.geometry.now c.args.image.now) c.args.last) c.args.geometry.now.last_inode c.loop-i.i (omega arith) (omega arith)
    (above_is (tree c.args.geometry.now c.args.image.now) c.args.last c.loop-i.i c.if-last-i.true (sym c.is_node.ensures ∙ c.if-is_node.true)))

pub loop-i-preserved : goal.loop-i-preserved
loop-i-preserved c =
    none_more (is_above_at (tree c.args.geometry.now c.args.image.now) c.args.last) c.loop-i.i (omega arith) c.loop-i.invariant
    (elim c.else-last-i.branch [
      | else-last-i-via-then-last-i+else-is_node w ↦
          above_none (tree c.args.geometry.now c.args.image.now) c.args.last c.loop-i.i (sym w.is_node.ensures ∙ w.if-is_node.false)
      | else-last-i-via-else-last-i w ↦ above_low (tree c.args.geometry.now c.args.image.now) c.args.last c.loop-i.i w.if-last-i.false
    ])

pub returns-else-last-i : goal.returns-else-last-i
unfolding tree
returns-else-last-i c =
    let at : c.loop-i.i + 1 - 1 ≡ c.args.geometry.now.last_inode = omega arith in
    sym (sym (ap (λ n. list_any (is_above_at (tree c.args.geometry.now c.args.image.now) c.args.last) (range_with_len 1 n)) at)
    ∙ none_more (is_above_at (tree c.args.geometry.now c.args.image.now) c.args.last) c.loop-i.i (omega arith) c.loop-i.invariant
    (elim c.else-last-i.branch [
      | else-last-i-via-then-last-i+else-is_node w ↦
          above_none (tree c.args.geometry.now c.args.image.now) c.args.last c.loop-i.i (sym w.is_node.ensures ∙ w.if-is_node.false)
      | else-last-i-via-else-last-i w ↦ above_low (tree c.args.geometry.now c.args.image.now) c.args.last c.loop-i.i w.if-last-i.false
    ]))
