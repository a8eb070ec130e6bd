use Rattle.vol_judge.proofs.Parented.{again_first}
use Rattle.vol_judge.proofs.directories.tree.find_tree.Goals as goal

pub returns-in-Some : goal.returns-in-Some
returns-in-Some c =
    let found = rw c.in-Some.is at c.requires.again in (
      again_first c.args.geometry.now c.args.image.now c.in-Some.finding found.0,
      λ rule. found.1 (record { one = rule.one; root_none = rule.root_none }),
    )
