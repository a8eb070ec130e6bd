use Rattle.std.proofs.Common.{◌≡◌, ◌+◌, ◌++◌, length, map, take, drop, ap, sym, ◌∙◌, subst, arith}
use Rattle.std.proofs.lemmas.List.{take_all}
use Rattle.vol_judge.specs.Directories.{root_of}
use Rattle.vol_judge.proofs.Once.{marks_written}
use Rattle.vol_reports.specs.Climb.{AreBefore, path_in}
use Rattle.vol_reports.proofs.PathLists.{paths_more}
use Rattle.vol_reports.proofs.ncheck.paths_of.Goals as goal

pub loop-k-preserved : goal.loop-k-preserved
loop-k-preserved c =
    let naming = c.args.naming.now in
    let entries = c.args.entries.now in
    let k = c.loop-k.k in
    let entry = c.index-entries-k.result in
    let new = c.entry_path.new.marks in
    let len = c.deref_mut.ensures.len in
    let written : take c.loop-k.marks.len (new ++ drop (length new) c.loop-k.marks.items) ≡ new =
    marks_written c.loop-k.marks.len new c.loop-k.marks.items (omega (arith, c.entry_path.auto.marks, len)) in
    record {
      room = ap length written ∙ omega (arith, c.entry_path.auto.marks, len, c.loop-k.invariant.room);
      early = subst (AreBefore (k + 1 + 1)) (sym written) c.in_ok-path.ensures.marks;
      way = c.in_ok-path.ensures.way;
      paths = paths_more (root_of c.args.geometry.now) naming entries k entry c.loop-k.paths.items c.push.new.self.items c.inode.result c.in_ok-path.path
          c.loop-k-test.true c.index-entries-k.is c.loop-k.invariant.paths c.in_ok-push.ensures.items c.inode.ensures c.in_ok-path.ensures.path;
    }

pub returns : goal.returns
returns c =
    c.loop-k.invariant.paths
    ∙ ap (map (path_in (root_of c.args.geometry.now) c.args.naming.now)) (take_all c.loop-k.k c.args.entries.now (omega arith))
