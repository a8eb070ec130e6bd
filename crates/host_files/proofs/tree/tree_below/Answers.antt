use Rattle.std.proofs.Common.{◌≡◌, ◌∷◌, [], List, arith, rules, subst}
use Rattle.host_files.specs.Folders.{AreListed}
use Rattle.host_files.specs.declared.folders.Found.{Found}
use Rattle.host_files.proofs.Trees.{listed_more}
use Rattle.host_files.proofs.tree.tree_below.Goals as goal

pub returns-in_default : goal.returns-in_default
returns-in_default g c =
    let was = c.visits.invariant.0 in
    let empty : c.visits.stack.items ≡ [] = search rules in (
      c.visits.visited,
      was.0,
      was.1,
      was.2,
      subst (λ (left : List Found). AreListed g.R.ImageFiles.listed c.visits.visited (was.0 ∷ []) left c.visits.members.items) empty was.3,
    )

pub visits-preserved : goal.visits-preserved
visits-preserved g c =
    let was = c.visits.invariant.0 in
    let opened = c.in-Ok.ensures.ok in (
      (was.0, was.1, was.2, listed_more g.R.ImageFiles.listed _ _ _ _ _ _ _ _ _ was.3 c.in-Some.ensures.items opened.1 opened.2 c.in-Ok-push.ensures.items),
      omega (arith, c.visits-test.true),
    )
