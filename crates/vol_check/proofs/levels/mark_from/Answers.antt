use Rattle.std.proofs.Common.{◌≡◌, ◌+◌, ◌-◌, ap, arith, ◌∙◌}
use Rattle.vol_check.specs.Levels.{below_all}
use Rattle.vol_check.proofs.LevelLaws.{keeps_then, all_leaves}
use Rattle.vol_check.proofs.levels.mark_from.Goals as goal

pub loop-left-init : goal.loop-left-init
loop-left-init c =
    let g = c.args.geometry.now in
    let image = c.args.image.now in record {
      kept = c.mark_found.ensures.kept;
      named = c.in_ok-mark_found.ensures.named;
      marks = λ weight.
          let m = c.in_ok-mark_found.ensures.ok weight in
          let none = ap (below_all g image c.args.i weight c.args.level) c.new-named.ensures.items in
          omega arith;
    }

pub loop-left-preserved : goal.loop-left-preserved
loop-left-preserved c =
    let g = c.args.geometry.now in
    let inv = c.loop-left.invariant in
    let one : c.loop-left.left - 1 + 1 ≡ c.loop-left.left = omega (arith, c.loop-left-test.true) in
    record {
      kept = keeps_then c.args.tally.now c.args.seat.now c.loop-left.seat c.mark_level.new.seat inv.kept c.mark_level.ensures.kept;
      named = c.in_ok-named.ensures.named;
      marks = λ weight.
          let m = inv.marks weight in
          let n = c.in_ok-named.ensures.ok weight in
          let same = ap (λ d. below_all g c.args.image.now c.args.i weight d c.loop-left.named.items) one in
          omega arith;
    }

pub returns-clause-ok : goal.returns-clause-ok
returns-clause-ok c =
    let g = c.args.geometry.now in
    let inv = c.loop-left.invariant in
    let end : c.loop-left.left ≡ 0 = omega (arith, c.loop-left-test.false) in
    record {
      own = inv.kept.own;
      parts = inv.kept.parts;
      draws = inv.kept.draws;
      marks = λ weight.
          let m = inv.marks weight in
          let none = ap (λ d. below_all g c.args.image.now c.args.i weight d c.loop-left.named.items) end
          ∙ all_leaves g c.args.image.now c.args.i weight c.loop-left.named.items in
          omega arith;
    }
