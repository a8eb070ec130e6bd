use Rattle.std.proofs.Common.{◌≡◌, ℕ, List, Option, ◌∷◌, [], Some, ap, subst, arith}
use Rattle.atomic_table.specs.declared.shared.Seat.{Seat}
use Rattle.count_table.specs.declared.rule.Mark.{Mark}
use Rattle.count_table.specs.declared.rule.SeatView.{SeatView}
use Rattle.count_table.specs.declared.words.Tally.{Tally}
use Rattle.count_table.specs.Sums.{total}
use Rattle.count_table.specs.Views.{mark}
use Rattle.count_table.proofs.Totals.{total_nil, total_cons}
use Rattle.vol_layout.specs.declared.geometry.Geometry.{Geometry}
use Rattle.vol_layout.proofs.BodyLaws.{zone_bounds}
use Rattle.vol_free.specs.declared.free_walk.FreeFault.{FreeFault}
use Rattle.vol_free.specs.FreeWalk.{Walked, free_walk}
use Rattle.vol_free.specs.Walk.{StepFinds}
use Rattle.vol_free.proofs.FreeWalks.{met_most, met_one, zoned_last}
use Rattle.vol_reports.specs.Words.{free_word}
use Rattle.vol_check.specs.Pieces.{Adds, free_weight}
use Rattle.vol_check.proofs.AddedMarks.{added, adds_none, adds_then, adds_as}
use Rattle.vol_check.proofs.free_walk.walk.Goals as goal

pub walk-init : goal.walk-init
walk-init c =
    let g = c.args.geometry.now in (
      [],
      c.new-walk.ensures c.args.marks.now c.requires.len c.requires.clear,
      adds_none c.args.tally.now c.args.seat.now (λ weight. total (λ b. weight (mark (free_word g b) 1)) []) c.requires.own
          (λ weight. total_nil (λ b. weight (mark (free_word g b) 1))),
    )

pub free_word-requires : goal.free_word-requires
free_word-requires c =
    let g = c.args.geometry.now in
    let next = met_one g c.args.image.now c.walk.marks c.next.new.marks c.walk.walk c.next.new.self c.in-Some-Ok.field-0-is c.in-Some-Ok.ensures c.walk.invariant.1 in
    record { zone = zoned_last next }

pub count-requires-clause-last : goal.count-requires-clause-last
count-requires-clause-last c =
    let g = c.args.geometry.now in
    let next = met_one g c.args.image.now c.walk.marks c.next.new.marks c.walk.walk c.next.new.self c.in-Some-Ok.field-0-is c.in-Some-Ok.ensures c.walk.invariant.1 in
    omega (arith, zone_bounds g c.in-Some-Ok.b (zoned_last next), c.free_word.ensures, c.requires.words.counts)

pub walk-smaller : goal.walk-smaller
walk-smaller c =
    let w = c.walk.invariant.1 in
    let next = met_one c.args.geometry.now c.args.image.now c.walk.marks c.next.new.marks c.walk.walk c.next.new.self c.in-Some-Ok.field-0-is c.in-Some-Ok.ensures w in
    omega (arith, met_most next, next.counted, w.counted)

pub walk-preserved : goal.walk-preserved
walk-preserved c =
    let g = c.args.geometry.now in
    let tally = c.args.tally.now in
    let met = c.walk.invariant.0 in
    let b = c.in-Some-Ok.b in
    let count : List ℕ → (Mark → ℕ) → ℕ = λ met weight. total (λ x. weight (mark (free_word g x) 1)) met in (
      b ∷ met,
      met_one g c.args.image.now c.walk.marks c.next.new.marks c.walk.walk c.next.new.self c.in-Some-Ok.field-0-is c.in-Some-Ok.ensures c.walk.invariant.1,
      adds_then tally c.args.seat.now c.walk.seat c.count.new.seat (count met) (λ weight. weight (mark (free_word g b) 1)) (count (b ∷ met)) c.walk.invariant.2
          (added tally c.walk.seat c.count.new.seat c.free_word.result 1 (λ weight. weight (mark (free_word g b) 1))
          c.count.ensures.own c.count.ensures.marked (λ weight. ap (λ w. weight (mark w 1)) c.free_word.ensures))
          (λ weight. let t = total_cons (λ x. weight (mark (free_word g x) 1)) b met in omega arith),
    )

-- if all blocks that the walk passed are marked, the marks are those of the free list
all_counted : (g : Geometry) (image : List ℕ) (tally : Tally) (old new : Seat (Unit {0}) SeatView) {met : List ℕ} {fault : Option (FreeFault × ℕ)}
    → Adds tally old new (λ weight. total (λ b. weight (mark (free_word g b) 1)) met) → free_walk g image ≡ record { met = met; fault = fault }
    → Adds tally old new (free_weight g image)
all_counted g image tally old new {met = met} adds is =
    adds_as tally old new (λ weight. total (λ b. weight (mark (free_word g b) 1)) met) (free_weight g image) adds
    (λ weight. ap (λ (k : Walked). total (λ b. weight (mark (free_word g b) 1)) k.met) is)

pub returns-in-Some-Err-clause-marks : goal.returns-in-Some-Err-clause-marks
returns-in-Some-Err-clause-marks c =
    let g = c.args.geometry.now in
    let image = c.args.image.now in
    let end = subst (λ r. StepFinds g image c.walk.marks c.next.new.marks c.walk.walk c.next.new.self (Some r)) c.in-Some-Err.field-0-is c.in-Some-Err.ensures in
    all_counted g image c.args.tally.now c.args.seat.now c.walk.seat c.walk.invariant.2 (end.2 c.walk.invariant.0 c.walk.invariant.1)

pub returns-in-None-clause-marks : goal.returns-in-None-clause-marks
returns-in-None-clause-marks c =
    all_counted c.args.geometry.now c.args.image.now c.args.tally.now c.args.seat.now c.walk.seat c.walk.invariant.2 (c.in-None.ensures.2 c.walk.invariant.0 c.walk.invariant.1)
