use Rattle.std.proofs.Common.{◌≡◌, ◌≤◌, ◌∙◌, ◌-◌, ap, sym, subst, refl, arith, slice_index}
use Rattle.std.proofs.Math.Nat.{pow-zero}
use Rattle.vol_layout.specs.Edition.{constants}
use Rattle.vol_layout.specs.BlockPointers.{form_at, named, pointer_in}
use Rattle.vol_layout.specs.BlockMaps.{form_of, block_limit, last_place, place_to}
use Rattle.vol_file.specs.Repeats.{MarksPassed, PassesBelow}
use Rattle.vol_file.proofs.Indexes.{named_more}
use Rattle.vol_file.proofs.RepeatedNumbers.{passes_stored}
use Rattle.vol_file.proofs.Subtrees.{few_entries, low_block}
use Rattle.vol_file.proofs.repeats.mark_passed.Goals as goal
use Rattle.vol_file.proofs.repeats.mark_passed.Goals.{then-is_between, else-is_between}

pub is_between-requires-clause-entries : goal.is_between-requires-clause-entries
is_between-requires-clause-entries c =
    few_entries c.args.geometry.now c.args.image.now c.args.i c.of-form.result c.args.b c.in-Some.way
    (c.of-form.ensures ∙ ap (form_of c.args.geometry.now.edition) c.mode.ensures) c.in-Some.ensures.end

pub is_between-requires-clause-low : goal.is_between-requires-clause-low
is_between-requires-clause-low c = low_block c.of-form.result c.args.b _ (sym c.in-Some.ensures.end)

pub loop-d-preserved : goal.loop-d-preserved
loop-d-preserved c =
    let geometry = c.args.geometry.now in
    let image = c.args.image.now in
    let way = c.in-Some.way in
    let levels = way.depth - c.loop-d.d in
    let form = c.of-form.ensures ∙ ap (form_of geometry.edition) c.mode.ensures in
    let limit : c.min-last.result ≤ block_limit (form_at geometry image c.args.i) = subst (λ f. c.min-last.result ≤ block_limit f) form (omega (arith, c.min-last.ensures, c.block_limit.ensures)) in
    record {
      block = c.entry-block.ensures
          ∙ (ap (λ m. pointer_in geometry image m (slice_index way.entries c.loop-d.d)) c.loop-d.invariant.block
          ∙ sym (named_more geometry image c.args.i way.address way.entries c.loop-d.d));
      marks = λ test passed stored. elim c.if-is_between.branch [
        | then-is_between w ↦
            let between = w.if-is_between.true in
            subst (MarksPassed test geometry image) (sym w.marks-is)
            (w.mark.ensures test geometry image (c.loop-d.invariant.marks test passed stored)
            (subst (λ m. PassesBelow test geometry image m levels) (sym c.loop-d.invariant.block)
            (passes_stored test geometry image c.args.i (form_at geometry image c.args.i) c.args.b c.loop-d.d levels c.args.from c.min-last.result way refl
            (c.in-Some.ensures.end ∙ ap (λ f. last_place f c.args.b) form) (omega (arith, c.loop-d-test.true)) (c.is_between.ensures.few between)
            (c.is_between.ensures.start between) (c.is_between.ensures.stop between) limit
            (λ t part low high. stored t part low (omega (arith, high, c.min-last.ensures))))))
        | else-is_between w ↦ subst (MarksPassed test geometry image) (sym w.marks-is) (c.loop-d.invariant.marks test passed stored)
      ];
    }

pub returns-then-b-last : goal.returns-then-b-last
returns-then-b-last c = λ test passed stored.
    let geometry = c.args.geometry.now in
    let image = c.args.image.now in
    let way = c.in-Some.way in
    let form = c.of-form.ensures ∙ ap (form_of geometry.edition) c.mode.ensures in
    let last : c.loop-d.d ≡ way.depth = omega (arith, c.loop-d-test.false, c.loop-d.auto.d-end) in
    let limit : c.min-last.result ≤ block_limit (form_at geometry image c.args.i) = subst (λ f. c.min-last.result ≤ block_limit f) form (omega (arith, c.min-last.ensures, c.block_limit.ensures)) in
    c.mark-then-b-last.ensures test geometry image (c.loop-d.invariant.marks test passed stored)
    (subst (λ m. PassesBelow test geometry image m 0) (sym (c.loop-d.invariant.block ∙ ap (λ d. named geometry image c.args.i (place_to way.address way.entries d)) last))
    (passes_stored test geometry image c.args.i (form_at geometry image c.args.i) c.args.b way.depth 0 c.args.from c.min-last.result way refl
    (c.in-Some.ensures.end ∙ ap (λ f. last_place f c.args.b) form) (omega arith) (omega arith) (let one = pow-zero (constants geometry.edition).pointers in omega (arith, one, c.if-from-b.true)) (omega (arith, c.if-b-last.true)) limit
    (λ t part low high. stored t part low (omega (arith, high, c.min-last.ensures)))))
