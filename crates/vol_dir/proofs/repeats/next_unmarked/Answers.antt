use Rattle.std.proofs.Common.{◌*◌, arith, inl, inr}
use Rattle.std.proofs.lemmas.Bool.{cases_lt}
use Rattle.vol_dir.specs.Repeats.{PassSlots, passes_in}
use Rattle.vol_dir.proofs.RepeatedSlots.{block_passes}
use Rattle.vol_dir.proofs.repeats.next_unmarked.Goals as goal

pub returns-in-Ok-clause-passed : goal.returns-in-Ok-clause-passed
returns-in-Ok-clause-passed c = λ test none marks known t low high within. elim (cases_lt t (32 * c.loop-b.b)) [
  | inl before ↦ (c.loop-b.invariant test none marks known).1 t low before within
  | inr here ↦ c.in-Ok.ensures.before test none t low here high
]

pub loop-b-preserved : goal.loop-b-preserved
loop-b-preserved c = λ test none marks known.
    let geometry = c.args.geometry.now in
    let image = c.args.image.now in
    let held = c.loop-b.invariant test none marks known in
    let passed : PassSlots test geometry image c.args.dir c.args.from (32 * c.in-Err.end) = λ t low high within. elim (cases_lt t (32 * c.loop-b.b)) [
      | inl before ↦ held.1 t low before within
      | inr here ↦ c.in-Err.ensures.passed test none held.0 t low here high within
    ] in
    let all : PassSlots test geometry image c.args.dir c.args.known (32 * c.in-Err.end) = λ t low high within. elim (cases_lt t c.args.from) [
      | inl before ↦ known t low before within
      | inr after ↦ passed t after high within
    ] in (
      c.mark_passed.ensures (passes_in test geometry image) held.0
          (λ b part low high. block_passes test geometry image c.args.dir b part c.requires.fits
          (omega (arith, high, c.min-to.ensures, c.slot_count-count.ensures))
          (λ t from to. all t (omega (arith, from, low, c.div_ceil.ensures)) (omega (arith, to, high, c.min-to.ensures))
          (omega (arith, to, high, c.min-to.ensures, c.slot_count-count.ensures)))),
      passed,
    )
