use Rattle.std.proofs.Common.{◌≡◌, [], rules}
use Rattle.vol_batch.proofs.MadeCalls.{on_start, on_call, on_refused, on_end}
use Rattle.vol_batch.proofs.batch.make_all.Goals as goal

pub calls-init : goal.calls-init
calls-init c = on_start _ _ _ c.reverse.ensures.items

pub calls-preserved : goal.calls-preserved
calls-preserved c = on_call _ _ _ _ _ _ _ _ c.calls.invariant c.in-Some.ensures.items c.in-Ok.ensures.accepted

pub returns-in-Err-clause-refused : goal.returns-in-Err-clause-refused
returns-in-Err-clause-refused c =
    on_refused _ _ _ _ _ _ _ _ _ c.calls.invariant c.in-Some.ensures.items c.in-Err.ensures.handed_back c.in-Err.ensures.refused c.in-Err.ensures.unchanged

pub returns-clause-made : goal.returns-clause-made
returns-clause-made c =
    let none : c.calls.left.items ≡ [] = search rules in
    on_end _ _ _ _ c.calls.invariant none
