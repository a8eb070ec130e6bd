use Rattle.std.proofs.Common.{◌≡◌, false, arith}
use Rattle.std.proofs.lemmas.Bool.Decides.{nat_tests}
use Rattle.vol_dir.specs.Tree.{is_number}
use Rattle.vol_dir.proofs.WalkLaws.{search-outside}
use Rattle.vol_dir.proofs.path_walk.search.Goals as goal
use Rattle.vol_dir.proofs.path_walk.search.Goals.{else-i-ge1-via-then-i-ge1+else-i-geometry, else-i-ge1-via-else-i-ge1}

pub returns-else-i-ge1-clause-exact : goal.returns-else-i-ge1-clause-exact
returns-else-i-ge1-clause-exact c =
    let number : is_number c.args.geometry.now c.args.i ≡ false = elim c.else-i-ge1.branch [
      | else-i-ge1-via-then-i-ge1+else-i-geometry w ↦ grind (arith, nat_tests)
      | else-i-ge1-via-else-i-ge1 w ↦ grind (arith, nat_tests)
    ] in
    search-outside c.args.geometry.now c.args.image.now c.args.cred c.args.i number
