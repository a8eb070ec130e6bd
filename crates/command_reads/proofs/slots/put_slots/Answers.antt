use Rattle.std.proofs.Common.{◌≡◌, ◌∙◌, ◌+◌, ◌-◌, ◌*◌, ◌≤◌, ◌++◌, List, ℕ, min, refl, sym, ap, drop, length, length-append, subst, arith, []}
use Rattle.std.specs.Io.KnownBytes.{Appends}
use Rattle.std.proofs.KnownBytes.{Appends-nil, Appends-trans}
use Rattle.vol_dir.specs.Entries.{slot_count}
use Rattle.vol_archive.proofs.Outputs.{handed_on, cut_front, cut_rest, cut_same}
use Rattle.command_reads.specs.Slots.{slot_lines}
use Rattle.command_reads.proofs.SlotItems.{drop_none, drop_three, drop_two}
use Rattle.command_reads.proofs.SlotLines.{lines_around, lines_before, before_none, before_hole, before_next}
use Rattle.command_reads.proofs.slots.put_slots.Goals as goal

pub loop-b-init : goal.loop-b-init
loop-b-init g c =
    let form = c.args.form in
    let geometry = c.args.geometry.now in
    let image = c.args.image.now in
    let next = c.next_block-b.ensures in
    let known = g.O.Sink.contents c.args.output.now in
    let none : [] ≡ lines_before form geometry image c.args.dir c.next_block-b.result =
    sym (before_hole form geometry image c.args.dir 0 c.next_block-b.result c.requires.fits next.reached next.hole ∙ before_none form geometry image c.args.dir) in
    record {
      within = next.within;
      left = omega (arith, ap (λ (xs : List ℕ). length xs) none);
      lines = subst (Appends known known) (sym (drop_none c.args.left) ∙ ap (drop c.args.left) none) (Appends-nil known);
      working = refl;
    }

pub loop-b-preserved : goal.loop-b-preserved
loop-b-preserved g c =
    let form = c.args.form in
    let geometry = c.args.geometry.now in
    let image = c.args.image.now in
    let d = c.args.dir in
    let b = c.loop-b.b in
    let few = c.min-few.result in
    let next = c.next_block-b-in-loop-b.ensures in
    let first = c.args.left in
    let count : c.slot_count-count.result ≡ slot_count geometry image d = c.slot_count-count.ensures in
    let low : 32 * b ≤ slot_count geometry image d = omega (arith, c.loop-b-test.true, c.div_ceil-blocks.ensures, count) in
    let is : few ≡ min (slot_count geometry image d - 32 * b) 32 = omega (arith, c.min-few.ensures, count) in
    let was = lines_before form geometry image d b in
    let now = slot_lines form geometry image d (32 * b) few in
    let more : was ++ now ≡ lines_before form geometry image d c.next_block-b-in-loop-b.result =
    before_next form geometry image d b few low is
    ∙ sym (before_hole form geometry image d (b + 1) c.next_block-b-in-loop-b.result c.requires.fits next.reached next.hole) in
    let here : Appends (g.O.Sink.contents c.loop-b.output) (g.O.Sink.contents c.put_block.new.output) (drop (first - length was) now) =
    subst (λ n. Appends (g.O.Sink.contents c.loop-b.output) (g.O.Sink.contents c.put_block.new.output) (drop n now)) c.loop-b.invariant.left
    c.in_ok-left.ensures.written.0 in
    record {
      within = next.within;
      left = omega (arith, c.in_ok-left.ensures.left, c.loop-b.invariant.left, length-append was now, ap (λ (xs : List ℕ). length xs) more);
      lines = subst (Appends (g.O.Sink.contents c.args.output.now) (g.O.Sink.contents c.put_block.new.output))
          (sym (drop_two first was now) ∙ ap (drop first) more) (Appends-trans _ _ _ _ _ c.loop-b.invariant.lines here);
      working = c.in_ok-left.ensures.written.1 ∙ c.loop-b.invariant.working;
    }

pub returns-in_err-left : goal.returns-in_err-left
returns-in_err-left g c =
    let form = c.args.form in
    let geometry = c.args.geometry.now in
    let image = c.args.image.now in
    let d = c.args.dir in
    let b = c.loop-b.b in
    let few = c.min-few.result in
    let first = c.args.left in
    let count : c.slot_count-count.result ≡ slot_count geometry image d = c.slot_count-count.ensures in
    let low : 32 * b ≤ slot_count geometry image d = omega (arith, c.loop-b-test.true, c.div_ceil-blocks.ensures, count) in
    let is : few ≡ min (slot_count geometry image d - 32 * b) 32 = omega (arith, c.min-few.ensures, count) in
    let was = lines_before form geometry image d b in
    let now = slot_lines form geometry image d (32 * b) few in
    let rest = slot_lines form geometry image d (32 * b + few) (slot_count geometry image d - 32 * b - few) in
    let parts = ap (drop first) (lines_around form geometry image d b few low is) ∙ drop_three first was now rest in
    let later = drop (first - length was - length now) rest in
    handed_on _ _ _ _ _ _ c.in_err-left.field-0.0 c.from_residual.ensures
    (cut_same _ _ _ (drop first was ++ (drop (first - length was) now ++ later)) (drop first (slot_lines form geometry image d 0 (slot_count geometry image d))) _ parts
    (cut_rest _ _ _ _ (drop first was) (drop (first - length was) now ++ later) _ c.loop-b.invariant.lines
    (cut_front _ _ _ (drop (first - length was) now) later _
    (cut_same _ _ _ (drop c.loop-b.left now) (drop (first - length was) now) _ (sym (ap (λ n. drop n now) c.loop-b.invariant.left)) c.in_err-left.ensures.written))))

pub returns : goal.returns
returns g c =
    let form = c.args.form in
    let geometry = c.args.geometry.now in
    let image = c.args.image.now in
    let d = c.args.dir in
    let count : c.slot_count-count.result ≡ slot_count geometry image d = c.slot_count-count.ensures in
    let all : min (32 * c.loop-b.b) (slot_count geometry image d) ≡ slot_count geometry image d =
    omega (arith, c.loop-b-test.false, c.loop-b.invariant.within, c.div_ceil-blocks.ensures, count) in (
      subst (λ n. Appends (g.O.Sink.contents c.args.output.now) (g.O.Sink.contents c.loop-b.output) (drop c.args.left (slot_lines form geometry image d 0 n))) all
          c.loop-b.invariant.lines,
      c.loop-b.invariant.working,
    )
