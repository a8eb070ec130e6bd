-- If one is found, some i-number passes the test; if none is found, none does.
use Rattle.std.proofs.Common.{◌≡◌, ◌∙◌, sym, ap, ◌+◌, ◌-◌, arith}
use Rattle.std.specs.List.{list_any, range_with_len}
use Rattle.vol_dir.specs.Tree.{tree}
use Rattle.vol_migrate.specs.Refuse.{is_refused_at}
use Rattle.vol_migrate.proofs.Refused.{any_from, none_more}
use Rattle.vol_migrate.proofs.refuse.has_refused.Goals as goal

pub returns-then-is_refused : goal.returns-then-is_refused
unfolding tree
returns-then-is_refused c =
    sym (any_from (is_refused_at c.args.devices (tree c.args.geometry.now c.args.image.now)) c.args.geometry.now.last_inode c.loop-i.i (omega arith) (omega arith)
    (sym c.is_refused.ensures ∙ c.if-is_refused.true))

pub loop-i-preserved : goal.loop-i-preserved
loop-i-preserved c =
    none_more (is_refused_at c.args.devices (tree c.args.geometry.now c.args.image.now)) c.loop-i.i (omega arith) c.loop-i.invariant
    (sym c.is_refused.ensures ∙ c.if-is_refused.false)

pub returns-else-is_refused : goal.returns-else-is_refused
unfolding tree
returns-else-is_refused c =
    let at : c.loop-i.i + 1 - 1 ≡ c.args.geometry.now.last_inode = omega arith in
    sym (sym (ap (λ n. list_any (is_refused_at c.args.devices (tree c.args.geometry.now c.args.image.now)) (range_with_len 1 n)) at)
    ∙ none_more (is_refused_at c.args.devices (tree c.args.geometry.now c.args.image.now)) c.loop-i.i (omega arith) c.loop-i.invariant
    (sym c.is_refused.ensures ∙ c.if-is_refused.false))
