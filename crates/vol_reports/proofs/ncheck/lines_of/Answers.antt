use Rattle.vol_reports.proofs.PathLists.{lines_more}
use Rattle.vol_reports.proofs.ncheck.lines_of.Goals as goal

pub loop-inode-preserved : goal.loop-inode-preserved
loop-inode-preserved c =
    lines_more c.loop-inode.yielded c.in-Some.inode c.in-Some.bytes c.from_vec-path.result c.loop-inode.lines.items c.push.new.self.items
    c.from_vec-path.ensures c.in_ok-push.ensures.items c.loop-inode.invariant
