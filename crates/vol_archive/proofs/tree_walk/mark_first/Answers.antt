use Rattle.std.proofs.Common.{◌<◌, inl, inr, ◌∙◌, sym, arith, length}
use Rattle.vol_archive.proofs.FirstMarks.{firsts_set, firsts_kept, none_read, some_read}
use Rattle.vol_archive.proofs.tree_walk.mark_first.Goals as goal
use Rattle.vol_archive.proofs.tree_walk.mark_first.Goals.{else-i-len-via-then-i-len+then-is_first+else-is_none, else-i-len-via-then-i-len+else-is_first, else-i-len-via-else-i-len}

pub returns-then-is_none : goal.returns-then-is_none
returns-then-is_none c = λ g founds found are place inode role.
    let items = c.args.firsts.now.items in
    let within : c.args.inode < length items = omega arith in
    firsts_set g items founds found c.args.inode c.args.place c.args.role (sym c.is_first.ensures ∙ c.if-is_first.true) within
    (none_read items c.args.inode c.index.result.now within c.index.ensures c.if-is_none.ensures) are place inode role

pub returns-else-i-len : goal.returns-else-i-len
returns-else-i-len c = λ g founds found are place inode role.
    let items = c.args.firsts.now.items in
    elim c.else-i-len.branch [
      | else-i-len-via-then-i-len+then-is_first+else-is_none w ↦
          let within : c.args.inode < length items = omega arith in
          firsts_kept g items founds found c.args.inode c.args.role
          (inr (inr (some_read items c.args.inode w.index.result.now within w.index.ensures w.if-is_none.ensures))) are inode role
      | else-i-len-via-then-i-len+else-is_first w ↦
          firsts_kept g items founds found c.args.inode c.args.role (inl (sym w.is_first.ensures ∙ w.if-is_first.false)) are inode role
      | else-i-len-via-else-i-len w ↦ firsts_kept g items founds found c.args.inode c.args.role (inr (inl (omega arith))) are inode role
    ]
