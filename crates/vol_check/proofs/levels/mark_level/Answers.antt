use Rattle.std.proofs.Common.{◌+◌, All, ap, arith, ◌∙◌, refl, sym, subst}
use Rattle.std.specs.Prelude.{Some}
use Rattle.std.proofs.lemmas.List.Elements.{All-pop, All-nil}
use Rattle.std.proofs.lemmas.List.Sums.{sum_by_push}
use Rattle.vol_check.specs.Pieces.{place_weight}
use Rattle.vol_check.specs.Levels.{IsNamed, below_block, below_named, below_all}
use Rattle.vol_check.proofs.LevelLaws.{keeps_then}
use Rattle.vol_check.proofs.levels.mark_level.Goals as goal

pub loop-n-init : goal.loop-n-init
loop-n-init c =
    let g = c.args.geometry.now in
    record {
      kept = record { own = c.requires.own; parts = refl; draws = refl };
      named = c.in_ok-once.ensures.named g c.requires.named;
      next = subst (All (IsNamed g)) (sym c.new-next.ensures.items) (All-nil (IsNamed g));
      marks = λ weight.
          let s = c.in_ok-once.ensures.same (below_block g c.args.image.now (place_weight g weight c.args.i) (c.args.level + 1)) in
          let none = ap (below_all g c.args.image.now c.args.i weight c.args.level) c.new-next.ensures.items in
          omega arith;
    }

pub loop-n-preserved : goal.loop-n-preserved
loop-n-preserved c =
    let g = c.args.geometry.now in
    let inv = c.loop-n.invariant in
    let parts = All-pop (IsNamed g) c.loop-n.once.items c.pop.new.self.items (Some c.in-Some.n) c.in-Some.ensures.items inv.named in
    record {
      kept = keeps_then c.args.tally.now c.args.seat.now c.loop-n.seat c.mark_entries.new.seat inv.kept c.mark_entries.ensures.kept;
      named = parts.0;
      next = c.in_ok-mark_entries.ensures.named;
      marks = λ weight.
          let f = below_named g c.args.image.now c.args.i weight (c.args.level + 1) in
          let m = inv.marks weight in
          let n = c.in_ok-mark_entries.ensures.ok weight in
          let s = ap (below_all g c.args.image.now c.args.i weight (c.args.level + 1)) c.in-Some.ensures.items ∙ sum_by_push f c.pop.new.self.items c.in-Some.n in
          omega arith;
    }
