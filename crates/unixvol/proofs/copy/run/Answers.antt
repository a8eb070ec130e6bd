use Rattle.unixvol.proofs.copy.run.Goals as goal

pub returns-in-Put-clause-runs : goal.returns-in-Put-clause-runs
returns-in-Put-clause-runs g c =
    rw c.in-Put.is (rw c.deref.ensures.value at c.run_put.ensures.runs)

pub returns-in-PutTree-clause-runs : goal.returns-in-PutTree-clause-runs
returns-in-PutTree-clause-runs g c =
    rw c.in-PutTree.is (rw c.deref-in-PutTree.ensures.value at c.run_put_tree.ensures.runs)

pub returns-in-Sync-clause-runs : goal.returns-in-Sync-clause-runs
returns-in-Sync-clause-runs g c = rw c.in-Sync.is (rw c.extra_of-extra.ensures at c.run_sync.ensures.runs)

pub returns-in-Get-default-default-true-default-clause-runs : goal.returns-in-Get-default-default-true-default-clause-runs
returns-in-Get-default-default-true-default-clause-runs g c =
    rw (c.in-Get-default-default-true-default.is, c.in-Get-default-default-true-default.is_deep-test) (rw c.deref-in-Get-default-default-true-default.ensures.value at
    (c.run_get_trees.ensures.runs (g.O.Sink.contents c.args.output.now) (g.O.Sink.failed c.args.output.now)))

pub returns-in-Get-default-default-true-default-clause-ends : goal.returns-in-Get-default-default-true-default-clause-ends
returns-in-Get-default-default-true-default-clause-ends g c =
    c.run_get_trees.ensures.ends (g.O.Sink.contents c.args.output.now) (g.O.Sink.failed c.args.output.now)

pub returns-in-Get-default-default-false-default-clause-runs : goal.returns-in-Get-default-default-false-default-clause-runs
returns-in-Get-default-default-false-default-clause-runs g c =
    rw (c.in-Get-default-default-false-default.is, c.in-Get-default-default-false-default.is_deep-test) (rw c.deref-in-Get-default-default-false-default.ensures.value at
    (c.run_get.ensures.runs (g.O.Sink.contents c.args.output.now) (g.O.Sink.failed c.args.output.now)))

pub returns-in-Get-default-default-false-default-clause-ends : goal.returns-in-Get-default-default-false-default-clause-ends
returns-in-Get-default-default-false-default-clause-ends g c =
    c.run_get.ensures.ends (g.O.Sink.contents c.args.output.now) (g.O.Sink.failed c.args.output.now)

pub returns-in-List-clause-runs : goal.returns-in-List-clause-runs
returns-in-List-clause-runs g c =
    rw c.in-List.is (c.run_build_list.ensures.runs (g.O.Sink.contents c.args.output.now) (g.O.Sink.failed c.args.output.now))

pub returns-in-List-clause-ends : goal.returns-in-List-clause-ends
returns-in-List-clause-ends g c = c.run_build_list.ensures.ends (g.O.Sink.contents c.args.output.now) (g.O.Sink.failed c.args.output.now)
