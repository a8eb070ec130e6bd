-- Each file adds its need.
use Rattle.std.proofs.Common.{◌≡◌, ◌∙◌, sym, ap, ◌+◌, arith}
use Rattle.vol_migrate.specs.Stages.{need_before}
use Rattle.vol_migrate.proofs.CarriedBlocks.{need_all, before_more}
use Rattle.vol_migrate.proofs.count.places_needed.Goals as goal

pub loop-i-preserved : goal.loop-i-preserved
loop-i-preserved c =
    let more = before_more c.args.from.now c.args.old.now c.loop-i.i c.loop-i.auto.i in
    let inv = c.loop-i.invariant in
    let total = inv.total in
    let bound = inv.bound in record {
      total = omega (arith, more, total, c.places_of.ensures.need, c.from-needed.ensures);
      bound = omega (arith, bound, c.places_of.ensures.bound, c.from-needed.ensures);
    }

pub returns-2 : goal.returns-2
returns-2 c =
    let geometry = c.args.from.now in
    let image = c.args.old.now in
    let at : c.loop-i.i ≡ geometry.last_inode = omega arith in
    let more = before_more geometry image c.loop-i.i c.loop-i.auto.i in
    let total = c.loop-i.invariant.total in
    let count : c.loop-i.needed + c.from-needed.result ≡ need_before geometry image (c.loop-i.i + 1) =
    omega (arith, more, total, c.places_of.ensures.need, c.from-needed.ensures) in
    count ∙ (ap (λ n. need_before geometry image (n + 1)) at ∙ sym (need_all geometry image))
