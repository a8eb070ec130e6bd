use Rattle.std.proofs.Common.{◌≡◌, ◌∙◌, ◌+◌, ◌-◌, ◌*◌, ap, arith, inl, inr}
use Rattle.std.proofs.lemmas.Bool.{cases_lt}
use Rattle.vol_dir.specs.Entries.{entry_at, slot_count}
use Rattle.vol_dir.specs.Search.{is_sought}
use Rattle.vol_dir.proofs.entries.first_slot.Goals as goal

pub returns-in-Some : goal.returns-in-Some
returns-in-Some c =
    let geometry = c.args.geometry.now in
    let image = c.args.image.now in
    let first = c.in-Some.ensures in
    let count : c.slot_count-count.result ≡ slot_count geometry image c.args.dir = c.slot_count-count.ensures in
    record {
      reached = omega (arith, first.reached, c.saturating_sub-start.ensures);
      within = omega (arith, first.within, c.min-few.ensures, c.loop-b-test.true, count);
      found = first.found;
      read = first.read;
      before = λ t low h. elim (cases_lt t (32 * c.loop-b.b)) [
        | inl before ↦ c.loop-b.invariant t low before (omega (arith, h, first.within, c.min-few.ensures))
        | inr high ↦
            let place : t ≡ 32 * c.loop-b.b + (t - 32 * c.loop-b.b) = omega (arith, high) in
            ap (λ n. is_sought c.args.sought (entry_at geometry image c.args.dir n)) place
            ∙ first.before (t - 32 * c.loop-b.b) (omega (arith, low, high, c.saturating_sub-start.ensures)) (omega (arith, h, high))
      ];
    }

pub loop-b-preserved : goal.loop-b-preserved
loop-b-preserved c = λ t low h within. elim (cases_lt t (32 * c.loop-b.b)) [
  | inl before ↦ c.loop-b.invariant t low before within
  | inr high ↦ elim (cases_lt t (32 * (c.loop-b.b + 1))) [
    | inl here ↦
        let place : t ≡ 32 * c.loop-b.b + (t - 32 * c.loop-b.b) = omega (arith, high) in
        ap (λ n. is_sought c.args.sought (entry_at c.args.geometry.now c.args.image.now c.args.dir n)) place
        ∙ c.in_default.ensures (t - 32 * c.loop-b.b) (omega (arith, low, high, c.saturating_sub-start.ensures)) (omega (arith, here, high, within, c.min-few.ensures))
    | inr after ↦ c.block_after-b.ensures.passed t after h (omega (arith, within, c.slot_count-count.ensures))
  ]
]
