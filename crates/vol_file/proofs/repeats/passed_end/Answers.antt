use Rattle.std.proofs.Common.{◌≡◌, ◌∙◌, ◌-◌, ◌+◌, ◌<◌, ap, sym, subst, refl, arith}
use Rattle.vol_layout.specs.BlockPointers.{form_at, named}
use Rattle.vol_layout.specs.BlockMaps.{form_of, last_place, place_to}
use Rattle.vol_file.specs.Repeats.{PassesBelow}
use Rattle.vol_file.proofs.RepeatedNumbers.{stored_passes}
use Rattle.vol_file.proofs.Subtrees.{few_entries, low_block}
use Rattle.vol_file.proofs.repeats.passed_end.Goals as goal

pub left_below-requires-clause-entries : goal.left_below-requires-clause-entries
left_below-requires-clause-entries c =
    few_entries c.args.geometry.now c.args.image.now c.args.i c.of-form.result c.args.b c.in-Some.way
    (c.of-form.ensures ∙ ap (form_of c.args.geometry.now.edition) c.mode.ensures) c.in-Some.ensures.end

pub overflow_add-result : goal.overflow_add-result
overflow_add-result c = omega (arith, low_block c.of-form.result c.args.b _ (sym c.in-Some.ensures.end), c.left_below.ensures.bound)

pub overflow_add-result-then-is_marked-2 : goal.overflow_add-result-then-is_marked-2
overflow_add-result-then-is_marked-2 c = omega (arith, low_block c.of-form.result c.args.b _ (sym c.in-Some.ensures.end))

pub returns-then-is_marked-clause-passed : goal.returns-then-is_marked-clause-passed
returns-then-is_marked-clause-passed c = λ test passed out t part low within.
    let geometry = c.args.geometry.now in
    let image = c.args.image.now in
    let way = c.in-Some.way in
    let levels = way.depth - c.loop-d.d in
    stored_passes test geometry image c.args.i (form_at geometry image c.args.i) c.args.b c.loop-d.d levels t part way refl
    (c.in-Some.ensures.end ∙ ap (λ f. last_place f c.args.b) (c.of-form.ensures ∙ ap (form_of geometry.edition) c.mode.ensures))
    (omega (arith, c.loop-d-test.true)) (c.is_marked.ensures.few c.if-is_marked.true)
    (subst (λ m. PassesBelow test geometry image m levels) c.loop-d.invariant (passed c.loop-d.block levels (c.is_marked.ensures.marked c.if-is_marked.true))) out low
    (subst (λ left. t < c.args.b + left) c.left_below.ensures.exact within)

pub returns-then-is_marked-2-clause-passed : goal.returns-then-is_marked-2-clause-passed
returns-then-is_marked-2-clause-passed c = λ test passed out t part low within.
    let geometry = c.args.geometry.now in
    let image = c.args.image.now in
    let way = c.in-Some.way in
    let last : c.loop-d.d ≡ way.depth = omega (arith, c.loop-d-test.false, c.loop-d.auto.d-end) in
    stored_passes test geometry image c.args.i (form_at geometry image c.args.i) c.args.b way.depth 0 t part way refl
    (c.in-Some.ensures.end ∙ ap (λ f. last_place f c.args.b) (c.of-form.ensures ∙ ap (form_of geometry.edition) c.mode.ensures))
    (omega arith) (omega arith)
    (subst (λ m. PassesBelow test geometry image m 0) (c.loop-d.invariant ∙ ap (λ d. named geometry image c.args.i (place_to way.address way.entries d)) last)
    (passed c.loop-d.block 0 (c.is_marked-2.ensures.marked c.if-is_marked-2.true))) out low within
