use Rattle.std.proofs.Common.{◌≡◌, ◌∷◌, [], List, rules, sym, subst}
use Rattle.vol_volume.specs.Volume.{reads_as}
use Rattle.vol_volume.specs.declared.calls.Call.{Call}
use Rattle.vol_batch.specs.Removal.{Takes}
use Rattle.vol_batch.proofs.TakenPaths.{on_start, on_path, on_end}
use Rattle.vol_batch.proofs.plan.calls_for.Goals as goal

pub paths-init : goal.paths-init
paths-init c = on_start _ _ _ _ _ c.in_ok-pending.ensures.items c.new-calls.ensures.items

pub paths-preserved : goal.paths-preserved
paths-preserved c =
    on_path _ _ _ _ _ _ _ _ _ _ c.paths.invariant c.in-Some.ensures.items c.in_ok-call.ensures.pending c.in_ok-call.ensures.call c.in_ok-push.ensures.items

pub returns : goal.returns
returns c =
    let none : c.paths.pending.items ≡ [] = search rules in
    subst (λ (calls : List Call). Takes (reads_as c.args.volume.now.edition c.args.volume.now.image).tree c.args.now (c.args.path ∷ []) calls)
    (sym c.reverse.ensures.items) (on_end _ _ _ _ _ c.paths.invariant none)
