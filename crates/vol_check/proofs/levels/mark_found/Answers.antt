use Rattle.std.proofs.Common.{◌≡◌, sym, ap, arith, ◌∙◌, false, true, All, subst}
use Rattle.std.proofs.lemmas.List.Elements.{All-push}
use Rattle.std.proofs.lemmas.List.Sums.{sum_by_push}
use Rattle.vol_layout.specs.Geometry.{in_zone}
use Rattle.vol_check.specs.Pieces.{place_weight}
use Rattle.vol_check.specs.Levels.{IsNamed, below_named, below_all}
use Rattle.vol_check.proofs.LevelLaws.{times_zero, times_leaf, times_outside, times_block}
use Rattle.vol_check.proofs.levels.mark_found.Goals as goal

pub returns-then-b-eq0-clause-ok : goal.returns-then-b-eq0-clause-ok
returns-then-b-eq0-clause-ok c =
    let g = c.args.geometry.now in
    λ weight. let z = times_zero g c.args.image.now (place_weight g weight c.args.i) c.args.level c.args.b c.args.times c.if-b-eq0.true in omega arith

pub returns-then-level-eq0-clause-ok : goal.returns-then-level-eq0-clause-ok
returns-then-level-eq0-clause-ok c =
    let g = c.args.geometry.now in
    λ weight.
    let m = c.mark_times.ensures.marks weight in
    let l = times_leaf g c.args.image.now (place_weight g weight c.args.i) c.args.level c.args.b c.args.times c.if-b-eq0.false c.if-level-eq0.true in
    omega arith

pub returns-then-not-in_zone-clause-ok : goal.returns-then-not-in_zone-clause-ok
returns-then-not-in_zone-clause-ok c =
    let g = c.args.geometry.now in
    let out : in_zone g c.args.b ≡ false = sym c.in_zone.ensures ∙ c.if-not-in_zone.true in
    let deep = c.if-level-eq0.false in
    λ weight.
    let m = c.mark_times.ensures.marks weight in
    let l = times_outside g c.args.image.now (place_weight g weight c.args.i) c.args.level c.args.b c.args.times c.if-b-eq0.false (omega arith) out in
    omega arith

pub returns-clause-named : goal.returns-clause-named
returns-clause-named c =
    let g = c.args.geometry.now in
    let zone : in_zone g c.args.b ≡ true = sym c.in_zone.ensures ∙ c.if-not-in_zone.false in
    subst (All (IsNamed g)) (sym c.in_ok-push.ensures.items)
    (All-push (IsNamed g) c.args.next.now.items (record { number = c.args.b; times = c.args.times }) c.requires.next (zone, c.requires.some))

pub returns-clause-ok : goal.returns-clause-ok
returns-clause-ok c =
    let g = c.args.geometry.now in
    let image = c.args.image.now in
    let deep = c.if-level-eq0.false in
    λ weight.
    let m = c.mark_times.ensures.marks weight in
    let l = times_block g image (place_weight g weight c.args.i) c.args.level c.args.b c.args.times c.if-b-eq0.false (omega arith) in
    let p = ap (below_all g image c.args.i weight c.args.level) c.in_ok-push.ensures.items
    ∙ sum_by_push (below_named g image c.args.i weight c.args.level) c.args.next.now.items (record { number = c.args.b; times = c.args.times }) in
    omega arith
