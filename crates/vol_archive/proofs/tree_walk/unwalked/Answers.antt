use Rattle.std.proofs.Common.{sym, subst}
use Rattle.vol_archive.specs.Marks.{AreFirsts}
use Rattle.vol_archive.proofs.FirstMarks.{firsts_none}
use Rattle.vol_archive.proofs.tree_walk.unwalked.Goals as goal

pub returns-clause-firsts : goal.returns-clause-firsts
returns-clause-firsts c =
    subst (AreFirsts c.args.geometry.now c.in_ok-firsts.firsts.items) (sym c.new.ensures.items)
    (firsts_none c.args.geometry.now c.in_ok-firsts.firsts.items c.in_ok-firsts.ensures.len c.in_ok-firsts.ensures.none)
