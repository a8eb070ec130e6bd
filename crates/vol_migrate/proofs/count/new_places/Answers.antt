-- The new positions on the path, for each region in which the logical block may be.
use Rattle.std.proofs.Common.{sym, arith}
use Rattle.vol_migrate.proofs.NewPlaces.{need_direct, need_single, need_double, need_triple}
use Rattle.vol_migrate.proofs.count.new_places.Goals as goal

pub returns-in-0-to-9-clause-exact : goal.returns-in-0-to-9-clause-exact
returns-in-0-to-9-clause-exact c = λ shape after. sym (need_direct shape c.args.b c.args.passed after (omega arith))

pub returns-in-10-to-137-clause-exact : goal.returns-in-10-to-137-clause-exact
returns-in-10-to-137-clause-exact c = λ shape after.
    let need = need_single shape c.args.b c.args.passed after (omega arith) (omega arith) in
    omega (arith, need, c.is_new.ensures.exact)

pub returns-in-138-to-16521-clause-exact : goal.returns-in-138-to-16521-clause-exact
returns-in-138-to-16521-clause-exact c = λ shape after.
    let need = need_double shape c.args.b c.args.passed after (omega arith) (omega arith) in
    omega (arith, need, c.is_new-in-138-to-16521.ensures.exact, c.is_new-in-138-to-16521-2.ensures.exact)

pub returns-in_default-clause-exact : goal.returns-in_default-clause-exact
returns-in_default-clause-exact c = λ shape after.
    let need = need_triple shape c.args.b c.args.passed after (omega arith) c.requires in
    omega (arith, need, c.is_new-in_default.ensures.exact, c.is_new-in_default-2.ensures.exact, c.is_new-in_default-3.ensures.exact)
