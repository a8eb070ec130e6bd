use Rattle.std.proofs.Common.{◌∙◌, ap}
use Rattle.std.specs.Prelude.{Option}
use Rattle.vol_rescue.specs.Damage.{kept_entry, marked}
use Rattle.vol_rescue.specs.declared.damage.Damage.{Damage}
use Rattle.vol_rescue.proofs.KeptEntries.{kept_more}
use Rattle.vol_rescue.proofs.damage.marked.Goals as goal

pub loop-found-preserved : goal.loop-found-preserved
loop-found-preserved c =
    let g = c.args.geometry.now in
    let image = c.args.image.now in
    let lost = c.args.lost.now in
    let damaged = c.args.damaged in
    let found = c.in-Some.found in
    kept_more (marked g image lost damaged) c.loop-found.yielded found c.kept_entry.result
    c.loop-found.kept.items c.push.new.self.items
    (c.kept_entry.ensures ∙ ap (λ (d : Option Damage). kept_entry damaged d found) c.damage_of-damage.ensures.exact) c.in_ok-push.ensures.items c.loop-found.invariant
