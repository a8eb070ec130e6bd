use Rattle.std.proofs.Common.{◌≡◌, ℕ, ◌*◌, ◌≤◌, sym, ap, subst, ◌∙◌, false, true}
use Rattle.vol_layout.specs.Geometry.{in_zone}
use Rattle.count_table.specs.Views.{mark}
use Rattle.vol_reports.specs.Words.{bad_word, least_word}
use Rattle.vol_check.specs.Pieces.{place_weight}
use Rattle.vol_check.proofs.AddedMarks.{added_times, adds_then}
use Rattle.vol_check.proofs.LevelLaws.{spread}
use Rattle.vol_check.proofs.Weights.{place_inside, place_outside}
use Rattle.vol_check.proofs.levels.mark_times.Goals as goal

pub returns-then-in_zone : goal.returns-then-in_zone
returns-then-in_zone c =
    let g = c.args.geometry.now in
    let n = c.args.times in
    let zone : in_zone g c.args.b ≡ true = sym c.in_zone.ensures ∙ c.if-in_zone.true in
    added_times c.args.tally.now c.args.seat.now c.count_times.new.seat c.place_word.result 1 n n (λ weight. n * place_weight g weight c.args.i c.args.b)
    c.count_times.ensures.own c.count_times.ensures.marked
    (λ weight. ap (λ w. n * weight (mark w 1)) c.place_word.ensures ∙ ap (λ x. n * x) (sym (place_inside g weight c.args.i c.args.b zone)))

pub lower_times-requires-clause-times : goal.lower_times-requires-clause-times
lower_times-requires-clause-times c =
    let e = ap (λ v. v.times) c.count_times-else-in_zone.ensures.marked in
    let P : ℕ → Type 0 = λ k. 1 ≤ k in subst P (sym e) c.requires.some

pub returns-else-in_zone : goal.returns-else-in_zone
returns-else-in_zone c =
    let g = c.args.geometry.now in
    let n = c.args.times in
    let zone : in_zone g c.args.b ≡ false = sym c.in_zone.ensures ∙ c.if-in_zone.false in
    let mid = c.count_times-else-in_zone.new.seat in
    let times : mid.me.0.times ≡ n = ap (λ v. v.times) c.count_times-else-in_zone.ensures.marked in
    adds_then c.args.tally.now c.args.seat.now mid c.lower_times.new.seat (λ weight. n * weight (mark (bad_word g c.args.i) 1))
    (λ weight. n * weight (mark (least_word g c.args.i) c.args.b)) (λ weight. n * place_weight g weight c.args.i c.args.b)
    (added_times c.args.tally.now c.args.seat.now mid c.bad_word.result 1 n n (λ weight. n * weight (mark (bad_word g c.args.i) 1))
    c.count_times-else-in_zone.ensures.own c.count_times-else-in_zone.ensures.marked (λ weight. ap (λ w. n * weight (mark w 1)) c.bad_word.ensures))
    (added_times c.args.tally.now mid c.lower_times.new.seat c.least_word.result c.from.result mid.me.0.times 1 (λ weight. n * weight (mark (least_word g c.args.i) c.args.b))
    c.lower_times.ensures.own c.lower_times.ensures.marked
    (λ weight. ap (λ k. k * weight (mark c.least_word.result c.from.result)) times ∙ (λ j. n * weight (mark (c.least_word.ensures j) (c.from.ensures j)))))
    (λ weight. ap (λ x. n * x) (place_outside g weight c.args.i c.args.b zone) ∙ spread n _ _)
