use Rattle.std.proofs.Common.{◌≡◌, ℕ, ◌+◌, ◌-◌, sym, ap, subst, refl, arith, ◌∙◌, Some, set}
use Rattle.std.proofs.lemmas.List.{length-set}
use Rattle.vol_layout.specs.Edition.{constants}
use Rattle.vol_layout.specs.BlockPointers.{pointer_in}
use Rattle.vol_layout.proofs.BodyLaws.{zone_bounds}
use Rattle.vol_layout.proofs.CopyLaws.{number_room}
use Rattle.vol_layout.proofs.NameLaws.{entry_in}
use Rattle.vol_judge.specs.Marks.{IsInside, blocks_from, marked}
use Rattle.vol_judge.proofs.Insides.{inside_here, inside_entry}
use Rattle.vol_judge.proofs.BlocksFrom.{mark_zero, mark_leaf, mark_below, entries_from, entries_none, entries_more, entries_zero}
use Rattle.vol_judge.specs.SharedBlocks.{again}
use Rattle.vol_judge.proofs.Agains.{from_here, from_below, entries_again}
use Rattle.vol_judge.proofs.shared_blocks.+again_from.Goals as goal

pub returns-then-b-eq0-clause-fresh : goal.returns-then-b-eq0-clause-fresh
returns-then-b-eq0-clause-fresh t c = mark_zero c.args.geometry.now c.args.image.now c.args.level c.args.b c.args.marks.now c.if-b-eq0.true

pub bounds-marks-b : goal.bounds-marks-b
bounds-marks-b t c =
    let zone = inside_here c.args.geometry.now c.args.image.now c.args.level c.args.b c.requires.inside c.if-b-eq0.false in
    let bounds = zone_bounds c.args.geometry.now c.args.b zone in omega (arith, bounds.1, c.requires.len)

pub returns-then-marks-b-ne0-clause-twice : goal.returns-then-marks-b-ne0-clause-twice
returns-then-marks-b-ne0-clause-twice t c =
    from_here c.args.geometry.now c.args.image.now c.args.level c.args.b c.args.marks.now c.if-b-eq0.false c.if-marks-b-ne0.true

pub bounds-marks-b-2 : goal.bounds-marks-b-2
bounds-marks-b-2 t c =
    let zone = inside_here c.args.geometry.now c.args.image.now c.args.level c.args.b c.requires.inside c.if-b-eq0.false in
    let bounds = zone_bounds c.args.geometry.now c.args.b zone in omega (arith, bounds.1, c.requires.len)

pub returns-then-level-eq0-clause-fresh : goal.returns-then-level-eq0-clause-fresh
returns-then-level-eq0-clause-fresh t c =
    mark_leaf c.args.geometry.now c.args.image.now c.args.level c.args.b c.args.marks.now c.if-b-eq0.false c.if-level-eq0.true c.if-marks-b-ne0.false

pub loop-j-init : goal.loop-j-init
loop-j-init t c =
    let g = c.args.geometry.now in
    let image = c.args.image.now in
    let d = c.args.level - 1 in
    let marks = set c.args.marks.now c.args.b 1 in
    record {
      marked = entries_zero g image d c.args.b 0 c.next_pointer-j.result c.next_pointer-j.result marks marks (omega arith) c.next_pointer-j.ensures.zeros
          (entries_none g image d c.args.b marks);
      within = c.next_pointer-j.ensures.within;
    }

pub number-entry-requires : goal.number-entry-requires
number-entry-requires t c =
    let zone = inside_here c.args.geometry.now c.args.image.now c.args.level c.args.b c.requires.inside c.if-b-eq0.false in
    let bounds = zone_bounds c.args.geometry.now c.args.b zone in
    let all : c.constants-pointers.result.pointers ≡ (constants c.args.geometry.now.edition).pointers = ap (λ k. k.pointers) c.constants-pointers.ensures in
    let room = number_room c.args.geometry.now.edition c.loop-j.j (omega (arith, all, c.loop-j-test.true)) in
    omega (arith, bounds.1, room, c.requires.fits.blocks)

pub again_from-requires : goal.again_from-requires
again_from-requires t c =
    let zone = inside_here c.args.geometry.now c.args.image.now c.args.level c.args.b c.requires.inside c.if-b-eq0.false in
    let all : c.constants-pointers.result.pointers ≡ (constants c.args.geometry.now.edition).pointers = ap (λ k. k.pointers) c.constants-pointers.ensures in
    let is : pointer_in c.args.geometry.now c.args.image.now c.args.b c.loop-j.j ≡ c.number-entry.result =
    entry_in c.args.geometry.now c.args.image.now c.args.b c.loop-j.j zone ∙ sym c.number-entry.ensures in
    let inside : IsInside c.args.geometry.now c.args.image.now (c.args.level - 1) c.number-entry.result =
    subst (IsInside c.args.geometry.now c.args.image.now (c.args.level - 1)) is
    (inside_entry c.args.geometry.now c.args.image.now c.args.level c.args.b c.loop-j.j (omega arith) (omega (arith, all, c.loop-j-test.true)) c.requires.inside) in
    (omega arith, (c.requires.fits, (omega (arith, length-set {A = ℕ}, c.requires.len, c.loop-j.auto.marks), inside)))

pub returns-in-Some-clause-twice : goal.returns-in-Some-clause-twice
returns-in-Some-clause-twice t c =
    let g = c.args.geometry.now in
    let image = c.args.image.now in
    let zone = inside_here g image c.args.level c.args.b c.requires.inside c.if-b-eq0.false in
    let all : c.constants-pointers.result.pointers ≡ (constants g.edition).pointers = ap (λ k. k.pointers) c.constants-pointers.ensures in
    let is : c.number-entry.result ≡ pointer_in g image c.args.b c.loop-j.j = c.number-entry.ensures ∙ sym (entry_in g image c.args.b c.loop-j.j zone) in
    let found : again c.loop-j.marks (blocks_from g image (c.args.level - 1) (pointer_in g image c.args.b c.loop-j.j)) ≡ Some c.in-Some.found =
    ap (λ e. again c.loop-j.marks (blocks_from g image (c.args.level - 1) e)) (sym is) ∙ c.in-Some.ensures.twice in
    from_below g image c.args.level c.args.b c.args.marks.now c.in-Some.found c.if-b-eq0.false (omega arith) c.if-marks-b-ne0.false
    (entries_again g image (c.args.level - 1) c.args.b c.loop-j.j (constants g.edition).pointers (set c.args.marks.now c.args.b 1) c.loop-j.marks
    c.in-Some.found (omega (arith, all, c.loop-j-test.true)) c.loop-j.invariant.marked found)

pub loop-j-preserved : goal.loop-j-preserved
loop-j-preserved t c =
    let g = c.args.geometry.now in
    let image = c.args.image.now in
    let zone = inside_here g image c.args.level c.args.b c.requires.inside c.if-b-eq0.false in
    let is : c.number-entry.result ≡ pointer_in g image c.args.b c.loop-j.j = c.number-entry.ensures ∙ sym (entry_in g image c.args.b c.loop-j.j zone) in
    let d = c.args.level - 1 in
    let old = set c.args.marks.now c.args.b 1 in
    let marks = c.again_from.new.marks in
    let last : marked c.loop-j.marks (blocks_from g image d (pointer_in g image c.args.b c.loop-j.j)) ≡ Some marks =
    ap (λ e. marked c.loop-j.marks (blocks_from g image d e)) (sym is) ∙ c.in_default.ensures.fresh in
    let next = c.next_pointer-j-in-loop-j in
    record {
      marked = entries_zero g image d c.args.b (c.loop-j.j + 1) (next.result - (c.loop-j.j + 1)) next.result old marks (omega (arith, next.ensures.order))
          next.ensures.zeros (entries_more g image d c.args.b c.loop-j.j (c.loop-j.j + 1) old c.loop-j.marks (Some marks) refl c.loop-j.invariant.marked last);
      within = next.ensures.within;
    }

pub returns-clause-fresh : goal.returns-clause-fresh
returns-clause-fresh t c =
    let g = c.args.geometry.now in
    let image = c.args.image.now in
    let all : c.constants-pointers.result.pointers ≡ (constants g.edition).pointers = ap (λ k. k.pointers) c.constants-pointers.ensures in
    let end : c.loop-j.j ≡ (constants g.edition).pointers = omega (arith, all, c.loop-j-test.false, c.loop-j.invariant.within) in
    mark_below g image c.args.level c.args.b c.args.marks.now (Some c.loop-j.marks) c.if-b-eq0.false (omega arith) c.if-marks-b-ne0.false
    (ap (λ n. marked (set c.args.marks.now c.args.b 1) (entries_from g image (c.args.level - 1) c.args.b n)) (sym end) ∙ c.loop-j.invariant.marked)
