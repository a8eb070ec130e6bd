use Rattle.std.proofs.Common.{◌≡◌, ℕ, ◌*◌, sym, ap, arith, ◌∙◌, refl}
use Rattle.vol_layout.specs.Edition.{constants}
use Rattle.vol_layout.specs.BlockPointers.{pointer_in}
use Rattle.vol_layout.proofs.BodyLaws.{zone_bounds}
use Rattle.vol_layout.proofs.CopyLaws.{number_room}
use Rattle.vol_layout.proofs.NameLaws.{entry_in}
use Rattle.vol_judge.specs.Marks.{blocks_from}
use Rattle.count_table.specs.Sums.{total, below}
use Rattle.count_table.proofs.Totals.{below_more, below_none}
use Rattle.vol_check.specs.Pieces.{place_weight}
use Rattle.vol_check.proofs.LevelLaws.{spread, no_times, keeps_then, below_entries}
use Rattle.vol_check.proofs.levels.mark_entries.Goals as goal

pub loop-j-init : goal.loop-j-init
loop-j-init c =
    let g = c.args.geometry.now in
    let image = c.args.image.now in
    let n = c.args.n in record {
      kept = record { own = c.requires.own; parts = refl; draws = refl };
      named = c.requires.next;
      marks = λ weight.
          let f : ℕ → ℕ = λ k. total (place_weight g weight c.args.i) (blocks_from g image c.args.level (pointer_in g image n.number k)) in
          let z = ap (λ x. n.times * x) (below_none f) ∙ no_times n.times in omega arith;
    }

pub number-entry-requires : goal.number-entry-requires
number-entry-requires c =
    let bounds = zone_bounds c.args.geometry.now c.args.n.number c.requires.n.0 in
    let all : c.constants-j-end.result.pointers ≡ (constants c.args.geometry.now.edition).pointers = ap (λ k. k.pointers) c.constants-j-end.ensures in
    let room = number_room c.args.geometry.now.edition c.loop-j.j (omega (arith, all, c.loop-j-test.true)) in
    omega (arith, bounds.1, room, c.requires.fits.blocks)

pub loop-j-preserved : goal.loop-j-preserved
loop-j-preserved c =
    let g = c.args.geometry.now in
    let image = c.args.image.now in
    let n = c.args.n in
    let is : pointer_in g image n.number c.loop-j.j ≡ c.number-entry.result = entry_in g image n.number c.loop-j.j c.requires.n.0 ∙ sym c.number-entry.ensures in
    record {
      kept = keeps_then c.args.tally.now c.args.seat.now c.loop-j.seat c.mark_found.new.seat c.loop-j.invariant.kept c.mark_found.ensures.kept;
      named = c.in_ok-mark_found.ensures.named;
      marks = λ weight.
          let f : ℕ → ℕ = λ k. total (place_weight g weight c.args.i) (blocks_from g image c.args.level (pointer_in g image n.number k)) in
          let before = c.loop-j.invariant.marks weight in
          let now = c.in_ok-mark_found.ensures.ok weight in
          let more = ap (λ x. n.times * x) (below_more f c.loop-j.j) ∙ spread n.times (below f c.loop-j.j) (f c.loop-j.j) in
          let here = ap (λ x. n.times * total (place_weight g weight c.args.i) (blocks_from g image c.args.level x)) is in
          omega arith;
    }

pub returns-clause-ok : goal.returns-clause-ok
returns-clause-ok c =
    let g = c.args.geometry.now in
    let image = c.args.image.now in
    let n = c.args.n in
    let all : c.constants-j-end.result.pointers ≡ (constants g.edition).pointers = ap (λ k. k.pointers) c.constants-j-end.ensures in
    let end : c.loop-j.j ≡ (constants g.edition).pointers = omega (arith, all, c.loop-j-test.false, c.loop-j.auto.j-end) in
    λ weight.
    let f : ℕ → ℕ = λ k. total (place_weight g weight c.args.i) (blocks_from g image c.args.level (pointer_in g image n.number k)) in
    let done = c.loop-j.invariant.marks weight in
    let whole = ap (λ x. n.times * x) (below_entries g image (place_weight g weight c.args.i) c.args.level n.number ∙ ap (below f) (sym end)) in
    omega arith
