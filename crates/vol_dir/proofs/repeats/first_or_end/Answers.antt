use Rattle.std.proofs.Common.{◌≡◌, ◌∙◌, ◌+◌, ◌-◌, ◌*◌, ◌/◌, ◌%◌, ap, arith, inl, inr}
use Rattle.std.specs.Option.{is_some}
use Rattle.std.proofs.lemmas.Bool.{cases_lt}
use Rattle.vol_layout.proofs.NameLaws.{zero_out}
use Rattle.vol_dir.specs.Entries.{entry_at}
use Rattle.vol_dir.specs.Repeats.{passes_in}
use Rattle.vol_dir.proofs.RepeatedSlots.{slot_passes, out_passes, empty_passes}
use Rattle.vol_dir.proofs.repeats.first_or_end.Goals as goal

pub returns-then-b-past-clause-passed : goal.returns-then-b-past-clause-passed
returns-then-b-past-clause-passed c = λ test none marks t from low high within.
    let geometry = c.args.geometry.now in
    let image = c.args.image.now in
    slot_passes test geometry image c.args.dir t c.requires.fits within
    (c.passed_end.ensures.passed (passes_in test geometry image) marks
    (λ part. out_passes test geometry image 0 part (zero_out geometry image c.requires.fits) none) (t / 32) (t % 32) (omega (arith, low))
    (omega (arith, high, c.min-past.ensures)))

pub returns-in-Some-clause-before : goal.returns-in-Some-clause-before
returns-in-Some-clause-before c = λ test none t from low high.
    let place : t ≡ 32 * c.args.b + (t - 32 * c.args.b) = omega (arith, low) in
    empty_passes test (entry_at c.args.geometry.now c.args.image.now c.args.dir t) none
    (ap (λ n. is_some (entry_at c.args.geometry.now c.args.image.now c.args.dir n)) place
    ∙ c.in-Some.ensures.before (t - 32 * c.args.b) (omega (arith, from, low, c.saturating_sub-start.ensures)) (omega (arith, high, low)))

pub returns-in-None-clause-passed : goal.returns-in-None-clause-passed
returns-in-None-clause-passed c = λ test none marks t from low high within. elim (cases_lt t (32 * (c.args.b + 1))) [
  | inl here ↦
      let place : t ≡ 32 * c.args.b + (t - 32 * c.args.b) = omega (arith, low) in
      empty_passes test (entry_at c.args.geometry.now c.args.image.now c.args.dir t) none
      (ap (λ n. is_some (entry_at c.args.geometry.now c.args.image.now c.args.dir n)) place
      ∙ c.in-None.ensures (t - 32 * c.args.b) (omega (arith, from, low, c.saturating_sub-start.ensures))
      (omega (arith, here, low, within, c.min-few.ensures, c.slot_count-count.ensures)))
  | inr after ↦ empty_passes test (entry_at c.args.geometry.now c.args.image.now c.args.dir t) none (c.block_after.ensures.passed t after high within)
]
