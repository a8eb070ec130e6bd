use Rattle.std.proofs.Common.{ap, arith, ◌∙◌, refl}
use Rattle.std.specs.Prelude.{Some}
use Rattle.std.specs.List.{sum_by}
use Rattle.std.proofs.lemmas.List.Elements.{All-pop}
use Rattle.std.proofs.lemmas.List.Sums.{sum_by_push}
use Rattle.vol_check.specs.Levels.{IsNamed, by_times}
use Rattle.vol_check.specs.Slots.{entry_weight, block_sum}
use Rattle.vol_check.proofs.entry_counts.count_blocks.Goals as goal

pub loop-n-init : goal.loop-n-init
loop-n-init c =
    let g = c.args.geometry.now in
    record {
      kept = record { own = c.requires.own; parts = refl; draws = refl };
      named = c.in_ok-once.ensures.named g c.in_ok-named.ensures.named;
      marks = λ weight.
          let all = c.in_ok-named.ensures.same (entry_weight g weight) refl in
          let once = c.in_ok-once.ensures.same (block_sum c.args.image.now (entry_weight g weight)) in
          omega arith;
    }

pub loop-n-preserved : goal.loop-n-preserved
loop-n-preserved c =
    let g = c.args.geometry.now in
    let inv = c.loop-n.invariant in
    let adds = c.count_block.ensures in
    let parts = All-pop (IsNamed g) c.loop-n.once.items c.pop.new.self.items (Some c.in-Some.n) c.in-Some.ensures.items inv.named in
    record {
      kept = record { own = adds.own; parts = adds.parts ∙ inv.kept.parts; draws = adds.draws ∙ inv.kept.draws };
      named = parts.0;
      marks = λ weight.
          let f = by_times (block_sum c.args.image.now (entry_weight g weight)) in
          let m = inv.marks weight in
          let n = adds.marks weight in
          let s = ap (sum_by f) c.in-Some.ensures.items ∙ sum_by_push f c.pop.new.self.items c.in-Some.n in
          omega arith;
    }
