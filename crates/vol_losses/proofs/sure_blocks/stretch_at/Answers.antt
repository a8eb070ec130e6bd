use Rattle.std.proofs.Common.{◌≡◌, ◌+◌, ◌-◌, ◌<◌, ◌∙◌, sym, ap, subst, slice_index, false, arith}
use Rattle.std.proofs.lemmas.Bool.{true≢false}
use Rattle.vol_layout.specs.Edition.{constants}
use Rattle.vol_layout.specs.Geometry.{in_zone}
use Rattle.vol_layout.specs.BlockMaps.{form_of}
use Rattle.vol_layout.specs.declared.edition.Constants.{Constants}
use Rattle.vol_file.proofs.Subtrees.{few_entries, few_pointers, low_block}
use Rattle.vol_losses.specs.Losses.{is_unsure}
use Rattle.vol_losses.proofs.LostPaths.{sure_past, first_above, next_named, next_above, same_left, at_end}
use Rattle.vol_losses.proofs.sure_blocks.stretch_at.Goals as goal
use Rattle.vol_losses.proofs.sure_blocks.stretch_at.Goals.{then-unsure-via-then-unsure, then-unsure-via-else-unsure+then-not-in_zone}

pub returns-in_default-clause-same : goal.returns-in_default-clause-same
returns-in_default-clause-same c = λ t low high.
    sure_past c.args.geometry.now c.args.image.now c.args.lost.now c.args.i c.of-form.result c.args.b t
    (c.of-form.ensures ∙ ap (form_of c.args.geometry.now.edition) c.mode.ensures) c.in_default.ensures.end low

pub loop-d-init : goal.loop-d-init
loop-d-init c = record {
  reached = c.address-block.ensures;
  above = first_above c.args.geometry.now c.args.image.now c.args.lost.now c.args.i;
}

pub overflow_sub-left-then-unsure : goal.overflow_sub-left-then-unsure
overflow_sub-left-then-unsure c =
    let few = few_entries c.args.geometry.now c.args.image.now c.args.i c.of-form.result c.args.b c.in-Some.way
    (c.of-form.ensures ∙ ap (form_of c.args.geometry.now.edition) c.mode.ensures) c.in-Some.ensures.end (c.in-Some.way.depth - 1) (omega arith) in
    let same : c.constants.result.pointers ≡ (constants c.args.geometry.now.edition).pointers = ap (λ (of : Constants). of.pointers) c.constants.ensures in
    omega (arith, few, same)

pub overflow_add-result : goal.overflow_add-result
overflow_add-result c =
    let same : c.constants.result.pointers ≡ (constants c.args.geometry.now.edition).pointers = ap (λ (of : Constants). of.pointers) c.constants.ensures in
    omega (arith, low_block c.of-form.result c.args.b _ (sym c.in-Some.ensures.end), few_pointers c.args.geometry.now.edition, same)

pub returns-then-unsure-clause-some : goal.returns-then-unsure-clause-some
returns-then-unsure-clause-some c =
    let few = few_entries c.args.geometry.now c.args.image.now c.args.i c.of-form.result c.args.b c.in-Some.way
    (c.of-form.ensures ∙ ap (form_of c.args.geometry.now.edition) c.mode.ensures) c.in-Some.ensures.end (c.in-Some.way.depth - 1) (omega arith) in
    let same : c.constants.result.pointers ≡ (constants c.args.geometry.now.edition).pointers = ap (λ (of : Constants). of.pointers) c.constants.ensures in
    omega (arith, few, same)

pub returns-then-unsure-clause-same : goal.returns-then-unsure-clause-same
returns-then-unsure-clause-same c = λ t low high.
    let geometry = c.args.geometry.now in
    let way = c.in-Some.way in
    let same : c.constants.result.pointers ≡ (constants geometry.edition).pointers = ap (λ (of : Constants). of.pointers) c.constants.ensures in
    let out : c.is_lost_block-unsure.result ≡ false → in_zone geometry c.loop-d.block ≡ false =
    elim c.then-unsure.branch [
      | then-unsure-via-then-unsure w ↦ λ sure. absurd (true≢false (sym w.if-unsure.true ∙ sure))
      | then-unsure-via-else-unsure+then-not-in_zone w ↦ λ sure. sym w.in_zone.ensures ∙ w.if-not-in_zone.true
    ] in
    same_left geometry c.args.image.now c.args.lost.now c.args.i c.of-form.result c.args.b c.loop-d.d c.loop-d.block t way c.is_lost_block-unsure.result
    c.requires.fits (c.of-form.ensures ∙ ap (form_of geometry.edition) c.mode.ensures) c.in-Some.ensures.end c.loop-d-test.true c.loop-d.invariant.reached
    c.loop-d.invariant.above c.is_lost_block-unsure.ensures out low
    (subst (λ n. t < c.args.b + (n - slice_index way.entries (way.depth - 1))) same high)

pub loop-d-preserved : goal.loop-d-preserved
loop-d-preserved c =
    let geometry = c.args.geometry.now in
    let way = c.in-Some.way in
    record {
      reached = c.number-block.ensures
          ∙ next_named geometry c.args.image.now c.args.i way.address way.entries c.loop-d.d c.loop-d.block c.loop-d.invariant.reached
          (sym c.in_zone.ensures ∙ c.if-not-in_zone.false);
      above = next_above geometry c.args.image.now c.args.lost.now c.args.i way.address way.entries c.loop-d.d c.loop-d.block c.loop-d.invariant.reached
          c.loop-d.invariant.above (sym c.is_lost_block-unsure.ensures ∙ c.if-unsure.false);
    }

pub returns-clause-same : goal.returns-clause-same
returns-clause-same c = λ t low high.
    let here : t ≡ c.args.b = omega arith in
    ap (is_unsure c.args.geometry.now c.args.image.now c.args.lost.now c.args.i) here
    ∙ (at_end c.args.geometry.now c.args.image.now c.args.lost.now c.args.i c.of-form.result c.args.b c.loop-d.d c.loop-d.block c.in-Some.way
    (c.of-form.ensures ∙ ap (form_of c.args.geometry.now.edition) c.mode.ensures) c.in-Some.ensures.end (omega arith) c.loop-d.invariant.reached
    c.loop-d.invariant.above
    ∙ sym c.is_lost_block.ensures)
