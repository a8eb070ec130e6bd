use Rattle.std.proofs.Common.{sym, subst, inl, inr}
use Rattle.vol_repair.specs.Repaired.{TellsUpTo}
use Rattle.vol_repair.proofs.Repairs.{tells_start, tells_list, list_told}
use Rattle.vol_repair.proofs.repaired_volume.lines_of.Goals as goal
use Rattle.vol_repair.proofs.repaired_volume.lines_of.Goals.{then-branch+in_ok-push, else-branch}

pub push_lines-requires-clause-start : goal.push_lines-requires-clause-start
push_lines-requires-clause-start c =
    subst (TellsUpTo c.args.geometry.now c.args.old.now c.args.new.now 0) (sym c.new-lines.ensures.items)
    (tells_start c.args.geometry.now c.args.old.now c.args.new.now)

pub returns : goal.returns
returns c =
    let geometry = c.args.geometry.now in
    let old = c.args.old.now in
    let new = c.args.new.now in
    let start = c.push_lines.new.lines.items in
    let told : TellsUpTo geometry old new geometry.last_inode start = c.in_ok-push_lines.ensures c.if-not-branch.false in
    elim c.if-branch.branch [
      | then-branch+in_ok-push w ↦ rw w.lines-is (record {
        told = tells_list geometry old new geometry.last_inode start _ w.in_ok-push.ensures.items told;
        list = inr (list_told start _ w.in_ok-push.ensures.items);
      })
      | else-branch w ↦ rw w.lines-is (record {
        told = told;
        list = inl (c.in_ok-is_list_changed.ensures w.if-branch.false);
      })
    ]
