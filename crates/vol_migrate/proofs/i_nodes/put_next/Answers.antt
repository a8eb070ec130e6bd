-- The i-node is written if it is used.
use Rattle.std.proofs.Common.{◌≡◌, ◌∙◌, sym, subst, refl, ◌+◌, slice_index, arith}
use Rattle.vol_layout.specs.Inode.{inode_place}
use Rattle.vol_migrate.specs.Stages.{IsUsed}
use Rattle.vol_migrate.proofs.FirstInodes.{inodes_more, inodes_pass, list_write}
use Rattle.vol_migrate.proofs.StageLaws.{old_rules}
use Rattle.vol_migrate.proofs.StageSteps.{used_allocated}
use Rattle.vol_migrate.proofs.i_nodes.put_next.Goals as goal

pub raised-node-requires-clause-allocated : goal.raised-node-requires-clause-allocated
raised-node-requires-clause-allocated c =
    let used : IsUsed c.args.from.now c.args.old.now c.args.i =
    record { first = c.requires.first; last = c.requires.last; some = c.is_used.ensures.used c.if-is_used.true } in
    used_allocated c.args.from.now c.args.old.now c.args.i c.requires.may.sixth
    (old_rules c.args.old.now c.args.from.now c.args.to.now c.requires.may).sound.kinds used

pub returns-then-is_used-clause-put : goal.returns-then-is_used-clause-put
returns-then-is_used-clause-put c = λ has.
    let from = c.args.from.now in
    let to = c.args.to.now in
    let old = c.args.old.now in
    let i = c.args.i in
    let used : IsUsed from old i =
    record { first = c.requires.first; last = c.requires.last; some = c.is_used.ensures.used c.if-is_used.true } in
    let stays = subst (λ e. slice_index c.put_inode.new.image (inode_place e (i + 1) + 51) ≡ slice_index c.args.image.now (inode_place e (i + 1) + 51))
    (sym c.requires.may.seventh) (c.put_inode.ensures.unused c.requires.may.seventh) in
    inodes_more from to old c.args.image.now c.put_inode.new.image c.args.now i used c.put_inode.ensures.others
    (c.put_inode.ensures.put ∙ c.raised-node.ensures.value) stays has

pub returns-then-is_used-clause-others : goal.returns-then-is_used-clause-others
returns-then-is_used-clause-others c =
    let to = c.args.to.now in
    let used : IsUsed c.args.from.now c.args.old.now c.args.i =
    record { first = c.requires.first; last = c.requires.last; some = c.is_used.ensures.used c.if-is_used.true } in
    list_write to c.args.image.now c.args.image.now c.put_inode.new.image (c.args.i + 1) c.requires.fits (omega arith) (c.requires.may.numbers c.args.i used)
    (record { len = refl; below = λ k h. refl; above = λ k h. refl }) c.put_inode.ensures.others

pub returns-else-is_used-clause-put : goal.returns-else-is_used-clause-put
returns-else-is_used-clause-put c = λ has.
    inodes_pass c.args.from.now c.args.to.now c.args.old.now c.args.image.now c.args.now c.args.i (c.is_used.ensures.free c.if-is_used.false) has

pub returns-else-is_used-clause-others : goal.returns-else-is_used-clause-others
returns-else-is_used-clause-others c = record { len = refl; below = λ k h. refl; above = λ k h. refl }
