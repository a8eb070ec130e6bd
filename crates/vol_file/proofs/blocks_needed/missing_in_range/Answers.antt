use Rattle.std.proofs.Common.{◌≡◌, ◌≤◌, ◌⊎◌, ◌∙◌, ap, sym, inl, inr, refl, arith}
use Rattle.vol_layout.specs.BlockMaps.{block_limit}
use Rattle.vol_file.specs.Shape.{is_named}
use Rattle.vol_file.specs.MissingBlocks.{grown_form, grown_names}
use Rattle.vol_file.proofs.MissingLaws.{missing_start, missing_more, missing_limit}
use Rattle.vol_file.proofs.blocks_needed.missing_in_range.Goals as goal

pub loop-b-init : goal.loop-b-init
loop-b-init c = record {
  exact = sym (missing_start (grown_form c.args.form c.args.grows) (grown_names (is_named c.args.geometry.now c.args.image.now c.args.i) c.args.grows) c.args.first);
  few = omega arith;
  within = inr refl;
}

pub loop-b-preserved : goal.loop-b-preserved
loop-b-preserved c =
    let form = grown_form c.args.form c.args.grows in
    let names = grown_names (is_named c.args.geometry.now c.args.image.now c.args.i) c.args.grows in
    record {
      exact = omega (arith, missing_more form names c.args.first c.loop-b.b c.loop-b.auto.b, c.loop-b.invariant.exact, c.missing_at-missing.ensures.exact);
      few = omega (arith, c.loop-b.invariant.few, c.missing_at-missing.ensures.bound);
      within = inl (omega arith);
    }

pub returns-clause-exact : goal.returns-clause-exact
returns-clause-exact c =
    let form = grown_form c.args.form c.args.grows in
    let names = grown_names (is_named c.args.geometry.now c.args.image.now c.args.i) c.args.grows in
    let limit : c.block_limit-limit.result ≡ block_limit form = c.block_limit-limit.ensures ∙ ap block_limit c.grown_form.ensures in
    let within : (c.loop-b.b ≤ c.args.end) ⊎ (c.loop-b.b ≡ c.args.first) =
    elim c.loop-b.invariant.within [ inl low ↦ inl (omega arith) | inr none ↦ inr none ] in
    let past : (c.args.end ≤ c.loop-b.b) ⊎ (block_limit form ≤ c.loop-b.b) = grind (arith, limit) in
    c.loop-b.invariant.exact ∙ missing_limit form names c.args.first c.loop-b.b c.args.end c.loop-b.auto.b within past
