use Rattle.std.proofs.Common.{◌≡◌, ◌∙◌, ◌++◌, List, [], Ok, ap, ap₂, rules, sym}
use Rattle.std.proofs.lemmas.Result.{err_from_is_err_and}
use Rattle.vol_dir.specs.Tree as trees
use Rattle.vol_volume.specs.Volume.{reads_as}
use Rattle.vol_import.specs.Plan.{ended, permissions_given, times}
use Rattle.vol_volume.specs.declared.calls.Call.{Call}
use Rattle.vol_import.proofs.PlanRuns.{on_member, on_fault, on_end}
use Rattle.vol_import.proofs.import_plan.plan.Goals as goal

pub returns-in_err-push_member-clause-fault : goal.returns-in_err-push_member-clause-fault
unfolding trees.tree
returns-in_err-push_member-clause-fault c =
    let p = err_from_is_err_and c.from_residual-in_err-push_member.result c.from_residual-in_err-push_member.ensures.1 in
    rw (p.1, p.2)
    (λ other.
    ap (ended (reads_as c.args.volume.now.edition c.args.volume.now.image).tree c.args.base.now c.args.now c.args.members.items)
    (on_fault _ _ _ _ _ _ _ _ _ c.members.invariant c.in-Some.ensures.items (c.in_err-push_member.ensures.fault other)))

pub members-preserved : goal.members-preserved
unfolding trees.tree
members-preserved c = on_member _ _ _ _ _ _ _ _ _ c.members.invariant c.in-Some.ensures.items c.in_ok-push_member.ensures.ok

pub returns-clause-ok : goal.returns-clause-ok
returns-clause-ok c =
    let none : c.members.left.items ≡ [] = search rules in
    ap (ended (reads_as c.args.volume.now.edition c.args.volume.now.image).tree c.args.base.now c.args.now c.args.members.items)
    (on_end _ _ _ _ _ _ c.members.invariant none ∙ ap Ok (sym c.into_calls-calls.ensures))
    ∙ ap Ok (ap₂ (λ (front rest : List Call). front ++ rest)
    (sym (rw (c.permissions_given-given.ensures ∙ ap permissions_given c.deref.ensures.value) at c.in_ok-close.ensures))
    (sym (c.in_ok-times.ensures
    ∙ ap (times (reads_as c.args.volume.now.edition c.args.volume.now.image).tree c.args.base.now c.args.now) c.deref-2.ensures.value))
    ∙ sym c.in_ok-append.ensures.items)
