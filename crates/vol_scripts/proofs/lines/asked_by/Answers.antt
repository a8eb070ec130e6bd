use Rattle.vol_scripts.proofs.lines.asked_by.Goals as goal

pub returns-in-Stat : goal.returns-in-Stat
returns-in-Stat c = rw c.in-Stat.is (c.stat.ensures c.args.now)

pub returns-in-Read : goal.returns-in-Read
returns-in-Read c = rw c.in-Read.is (c.read.ensures c.args.now)

pub returns-in-List : goal.returns-in-List
returns-in-List c = rw c.in-List.is (c.list.ensures c.args.now)
