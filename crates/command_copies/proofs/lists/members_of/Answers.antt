use Rattle.std.proofs.Common.{arith}
use Rattle.std.proofs.lemmas.Result.{err_from_is_err_and}
use Rattle.command_copies.proofs.Listings.{first_unlisted}
use Rattle.command_copies.proofs.lists.members_of.Goals as goal

pub returns-in_err-push_member-clause-fault : goal.returns-in_err-push_member-clause-fault
returns-in_err-push_member-clause-fault c =
    let p = err_from_is_err_and c.from_residual.result c.from_residual.ensures.1 in
    rw (p.1, p.2) (first_unlisted _ _ c.founds.found-index _ _ _ (omega arith) c.found-item.is c.founds.invariant c.in_err-push_member.ensures.fault)
