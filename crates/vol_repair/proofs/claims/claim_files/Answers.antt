use Rattle.std.proofs.Common.{◌+◌, ◌∙◌, sym, refl, arith, inl, inr}
use Rattle.std.proofs.lemmas.Bool.{true≢false}
use Rattle.vol_repair.proofs.Claiming.{met_none, met_next, clash_unfit, unfit_set}
use Rattle.vol_repair.proofs.claims.claim_files.Goals as goal

pub loop-before-init : goal.loop-before-init
loop-before-init c = record {
  met = met_none c.args.geometry.now c.args.image.now c.args.used.now c.requires.free;
  marked = λ i marked. absurd (true≢false (sym marked ∙ c.requires.clear i));
}

pub loop-before-preserved : goal.loop-before-preserved
loop-before-preserved c =
    let geometry = c.args.geometry.now in
    let image = c.args.image.now in
    let n = c.loop-before.before in
    let used = c.claim_file.new.used in
    let claims = c.in_ok-clash.ensures in
    record {
      met = met_next geometry image n (n + 1) c.loop-before.used used c.in_ok-clash.clash refl c.loop-before.invariant.met claims;
      marked = unfit_set geometry image c.loop-before.unfit (n + 1) c.is_unfit.result
          (omega (arith, c.requires.unfit, c.loop-before.auto.unfit, c.loop-before-test.true)) c.loop-before.invariant.marked
          (λ unfit fits. elim (c.is_unfit.ensures unfit) [
            | inl clash ↦ clash_unfit geometry image n (n + 1) c.loop-before.used used c.in_ok-clash.clash refl (omega (arith, c.loop-before-test.true))
                c.loop-before.invariant.met claims clash fits
            | inr other ↦ other fits
          ]);
    }
