use Rattle.std.proofs.Common.{◌≡◌, ◌+◌, ◌-◌, ◌*◌, ◌^◌, ◌∷◌, [], sym, ap, arith, ◌∙◌, false, true}
use Rattle.vol_layout.specs.Edition.{constants}
use Rattle.vol_layout.specs.Geometry.{in_zone}
use Rattle.vol_layout.specs.BlockPointers.{pointer_in}
use Rattle.vol_layout.proofs.BodyLaws.{zone_bounds}
use Rattle.vol_layout.proofs.CopyLaws.{number_room}
use Rattle.vol_layout.proofs.NameLaws.{entry_in}
use Rattle.vol_inspect.specs.Extents.{single, holdings_from}
use Rattle.vol_inspect.proofs.Gatherings.{notes_none, notes_then, notes_as, entries_before, entries_none, entries_more, hold_zero, hold_leaf, hold_entries, hold_outside}
use Rattle.vol_inspect.proofs.Spans.{entry_room}
use Rattle.vol_inspect.proofs.extents.+note_from.Goals as goal

pub returns-then-b-eq0 : goal.returns-then-b-eq0
returns-then-b-eq0 t c =
    notes_as c.args.gathering.now c.args.gathering.now _ _ (notes_none c.args.gathering.now)
    (sym (hold_zero c.args.geometry.now c.args.image.now c.args.level c.args.logical c.args.b c.if-b-eq0.true))

pub returns-then-level-eq0 : goal.returns-then-level-eq0
returns-then-level-eq0 t c =
    let g = c.args.geometry.now in
    notes_as c.args.gathering.now c.note.new.self _ (holdings_from g c.args.image.now c.args.level c.args.logical c.args.b) c.in_ok-note.ensures
    (ap (λ e. e ∷ []) c.single.ensures ∙ sym (hold_leaf g c.args.image.now c.args.level c.args.logical c.args.b c.if-b-eq0.false c.if-level-eq0.true))

pub returns-then-not-in_zone : goal.returns-then-not-in_zone
returns-then-not-in_zone t c =
    let g = c.args.geometry.now in
    let out : in_zone g c.args.b ≡ false = sym c.in_zone.ensures ∙ c.if-not-in_zone.true in
    let deep = c.if-level-eq0.false in
    notes_as c.args.gathering.now c.note.new.self _ (holdings_from g c.args.image.now c.args.level c.args.logical c.args.b) c.in_ok-note.ensures
    (ap (λ e. e ∷ []) c.single.ensures
    ∙ sym (hold_outside g c.args.image.now c.args.level c.args.logical c.args.b c.if-b-eq0.false (omega arith) out))

pub loop-j-init : goal.loop-j-init
loop-j-init t c =
    let g = c.args.geometry.now in
    notes_as c.args.gathering.now c.note.new.self _
    (single g c.args.level c.args.logical c.args.b ∷ entries_before g c.args.image.now (c.args.level - 1) c.args.logical c.args.b 0) c.in_ok-note.ensures
    (λ x. c.single.ensures x ∷ sym (entries_none g c.args.image.now (c.args.level - 1) c.args.logical c.args.b) x)

pub number-entry-requires : goal.number-entry-requires
number-entry-requires t c =
    let zone : in_zone c.args.geometry.now c.args.b ≡ true = sym c.in_zone.ensures ∙ c.if-not-in_zone.false in
    let bounds = zone_bounds c.args.geometry.now c.args.b zone in
    let all : c.constants-pointers.result.pointers ≡ (constants c.args.geometry.now.edition).pointers = ap (λ k. k.pointers) c.constants-pointers.ensures in
    let room = number_room c.args.geometry.now.edition c.loop-j.j (omega (arith, all, c.loop-j-test.true)) in
    omega (arith, bounds.1, room, c.requires.fits.blocks)

pub overflow_mul-j : goal.overflow_mul-j
overflow_mul-j t c =
    let p = (constants c.args.geometry.now.edition).pointers in
    let all : c.constants-pointers.result.pointers ≡ p = ap (λ k. k.pointers) c.constants-pointers.ensures in
    let deep = c.if-level-eq0.false in
    let room = entry_room p c.args.level c.args.logical c.loop-j.j c.span-span.result (omega arith) (omega (arith, all, c.loop-j-test.true)) c.span-span.ensures c.requires.room in
    omega (arith, room)

pub overflow_add-logical : goal.overflow_add-logical
overflow_add-logical t c =
    let p = (constants c.args.geometry.now.edition).pointers in
    let all : c.constants-pointers.result.pointers ≡ p = ap (λ k. k.pointers) c.constants-pointers.ensures in
    let deep = c.if-level-eq0.false in
    let room = entry_room p c.args.level c.args.logical c.loop-j.j c.span-span.result (omega arith) (omega (arith, all, c.loop-j-test.true)) c.span-span.ensures c.requires.room in
    omega (arith, room)

pub note_from-requires : goal.note_from-requires
note_from-requires t c =
    let p = (constants c.args.geometry.now.edition).pointers in
    let all : c.constants-pointers.result.pointers ≡ p = ap (λ k. k.pointers) c.constants-pointers.ensures in
    let deep = c.if-level-eq0.false in
    let room = entry_room p c.args.level c.args.logical c.loop-j.j c.span-span.result (omega arith) (omega (arith, all, c.loop-j-test.true)) c.span-span.ensures c.requires.room in
    let here = c.span-span.ensures in
    (omega arith, (c.requires.fits, (omega arith, omega (arith, room, here))))

pub loop-j-preserved : goal.loop-j-preserved
loop-j-preserved t c =
    let g = c.args.geometry.now in
    let image = c.args.image.now in
    let d = c.args.level - 1 in
    let zone : in_zone g c.args.b ≡ true = sym c.in_zone.ensures ∙ c.if-not-in_zone.false in
    let is : pointer_in g image c.args.b c.loop-j.j ≡ c.number-entry.result = entry_in g image c.args.b c.loop-j.j zone ∙ sym c.number-entry.ensures in
    let at : c.args.logical + c.loop-j.j * (constants g.edition).pointers ^ d ≡ c.args.logical + c.loop-j.j * c.span-span.result =
    ap (λ n. c.args.logical + c.loop-j.j * n) (sym c.span-span.ensures) in
    let head = single g c.args.level c.args.logical c.args.b in
    notes_as c.args.gathering.now c.note_from.new.gathering _ (head ∷ entries_before g image d c.args.logical c.args.b (c.loop-j.j + 1))
    (notes_then c.args.gathering.now c.loop-j.gathering c.note_from.new.gathering (head ∷ entries_before g image d c.args.logical c.args.b c.loop-j.j)
    (holdings_from g image d (c.args.logical + c.loop-j.j * c.span-span.result) c.number-entry.result) c.loop-j.invariant c.in_ok-note_from.ensures)
    (ap (λ xs. head ∷ xs) (sym (entries_more g image d c.args.logical c.args.b c.loop-j.j _ _ is at)))

pub returns : goal.returns
returns t c =
    let g = c.args.geometry.now in
    let image = c.args.image.now in
    let deep = c.if-level-eq0.false in
    let all : c.constants-pointers.result.pointers ≡ (constants g.edition).pointers = ap (λ k. k.pointers) c.constants-pointers.ensures in
    let end : c.loop-j.j ≡ (constants g.edition).pointers = omega (arith, all, c.loop-j-test.false, c.loop-j.auto.j-end) in
    notes_as c.args.gathering.now c.loop-j.gathering _ (holdings_from g image c.args.level c.args.logical c.args.b) c.loop-j.invariant
    (ap (λ n. single g c.args.level c.args.logical c.args.b ∷ entries_before g image (c.args.level - 1) c.args.logical c.args.b n) end
    ∙ sym (hold_entries g image c.args.level c.args.logical c.args.b c.if-b-eq0.false (omega arith)))
