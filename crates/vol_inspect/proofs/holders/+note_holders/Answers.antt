use Rattle.std.proofs.Common.{◌≡◌, ◌+◌, ◌-◌, ◌*◌, ◌^◌, ◌∷◌, refl, sym, ap, arith, ◌∙◌, false, true}
use Rattle.vol_layout.specs.Edition.{constants}
use Rattle.vol_layout.specs.Geometry.{in_zone}
use Rattle.vol_layout.specs.BlockPointers.{pointer_in}
use Rattle.vol_layout.proofs.BodyLaws.{zone_bounds}
use Rattle.vol_layout.proofs.CopyLaws.{number_room}
use Rattle.vol_layout.proofs.NameLaws.{entry_in}
use Rattle.vol_inspect.specs.Extents.{single, holdings_from}
use Rattle.vol_inspect.proofs.Gatherings.{entries_before, entries_none, entries_more, hold_zero, hold_leaf, hold_entries, hold_outside}
use Rattle.vol_inspect.proofs.HolderLaws.{notes_none, notes_then, notes_as, notes_rest, noted_more, noted_marked}
use Rattle.std.specs.List.{find}
use Rattle.vol_inspect.specs.Owners.{is_block}
use Rattle.vol_inspect.specs.Holders.{Notes}
use Rattle.vol_inspect.proofs.Spans.{entry_room}
use Rattle.vol_inspect.proofs.holders.+note_holders.Goals as goal

pub returns-then-b-eq0-clause-notes : goal.returns-then-b-eq0-clause-notes
returns-then-b-eq0-clause-notes t c =
    notes_as c.args.geometry.now c.args.i c.args.table.now c.args.table.now _ _ (notes_none c.args.geometry.now c.args.i c.args.table.now)
    (sym (hold_zero c.args.geometry.now c.args.image.now c.args.level c.args.logical c.args.b c.if-b-eq0.true))

pub returns-then-level-eq0-clause-notes : goal.returns-then-level-eq0-clause-notes
returns-then-level-eq0-clause-notes t c =
    let g = c.args.geometry.now in
    notes_as g c.args.i c.args.table.now c.note_one.new.table _ (holdings_from g c.args.image.now c.args.level c.args.logical c.args.b) c.note_one.ensures
    (sym (hold_leaf g c.args.image.now c.args.level c.args.logical c.args.b c.if-b-eq0.false c.if-level-eq0.true))

pub returns-then-not-in_zone-clause-notes : goal.returns-then-not-in_zone-clause-notes
returns-then-not-in_zone-clause-notes t c =
    let g = c.args.geometry.now in
    let out : in_zone g c.args.b ≡ false = sym c.in_zone.ensures ∙ c.if-not-in_zone.true in
    let deep = c.if-level-eq0.false in
    notes_as g c.args.i c.args.table.now c.note_one.new.table _ (holdings_from g c.args.image.now c.args.level c.args.logical c.args.b) c.note_one.ensures
    (sym (hold_outside g c.args.image.now c.args.level c.args.logical c.args.b c.if-b-eq0.false (omega arith) out))

pub loop-j-init : goal.loop-j-init
loop-j-init t c =
    let g = c.args.geometry.now in
    record {
      notes = notes_as g c.args.i c.args.table.now c.note_one.new.table _
          (single g c.args.level c.args.logical c.args.b ∷ entries_before g c.args.image.now (c.args.level - 1) c.args.logical c.args.b 0) c.note_one.ensures
          (ap (λ xs. single g c.args.level c.args.logical c.args.b ∷ xs) (sym (entries_none g c.args.image.now (c.args.level - 1) c.args.logical c.args.b)));
      noted = noted_more g c.args.image.now c.args.i c.args.table.now c.note_one.new.table c.args.seen.now _ c.note_one.ensures c.requires.noted;
    }

pub number-entry-requires : goal.number-entry-requires
number-entry-requires t c =
    let zone : in_zone c.args.geometry.now c.args.b ≡ true = sym c.in_zone.ensures ∙ c.if-not-in_zone.false in
    let bounds = zone_bounds c.args.geometry.now c.args.b zone in
    let all : c.constants-pointers.result.pointers ≡ (constants c.args.geometry.now.edition).pointers = ap (λ k. k.pointers) c.constants-pointers.ensures in
    let room = number_room c.args.geometry.now.edition c.loop-j.j (omega (arith, all, c.loop-j-test.true)) in
    omega (arith, bounds.1, room, c.requires.fits.blocks)

pub overflow_mul-j : goal.overflow_mul-j
overflow_mul-j t c =
    let p = (constants c.args.geometry.now.edition).pointers in
    let all : c.constants-pointers.result.pointers ≡ p = ap (λ k. k.pointers) c.constants-pointers.ensures in
    let deep = c.if-level-eq0.false in
    let room = entry_room p c.args.level c.args.logical c.loop-j.j c.span-span.result (omega arith) (omega (arith, all, c.loop-j-test.true)) c.span-span.ensures c.requires.room in
    omega (arith, room)

pub overflow_add-logical : goal.overflow_add-logical
overflow_add-logical t c =
    let p = (constants c.args.geometry.now.edition).pointers in
    let all : c.constants-pointers.result.pointers ≡ p = ap (λ k. k.pointers) c.constants-pointers.ensures in
    let deep = c.if-level-eq0.false in
    let room = entry_room p c.args.level c.args.logical c.loop-j.j c.span-span.result (omega arith) (omega (arith, all, c.loop-j-test.true)) c.span-span.ensures c.requires.room in
    omega (arith, room)

pub note_holders-requires : goal.note_holders-requires
note_holders-requires t c =
    let p = (constants c.args.geometry.now.edition).pointers in
    let all : c.constants-pointers.result.pointers ≡ p = ap (λ k. k.pointers) c.constants-pointers.ensures in
    let deep = c.if-level-eq0.false in
    let room = entry_room p c.args.level c.args.logical c.loop-j.j c.span-span.result (omega arith) (omega (arith, all, c.loop-j-test.true)) c.span-span.ensures c.requires.room in
    let here = c.span-span.ensures in
    (omega arith, (c.requires.fits, (omega arith, (omega (arith, room, here), (c.loop-j.invariant.notes.len ∙ c.requires.table, c.loop-j.invariant.noted)))))

pub loop-j-preserved : goal.loop-j-preserved
loop-j-preserved t c =
    let g = c.args.geometry.now in
    let image = c.args.image.now in
    let d = c.args.level - 1 in
    let zone : in_zone g c.args.b ≡ true = sym c.in_zone.ensures ∙ c.if-not-in_zone.false in
    let is : pointer_in g image c.args.b c.loop-j.j ≡ c.number-entry.result = entry_in g image c.args.b c.loop-j.j zone ∙ sym c.number-entry.ensures in
    let at : c.args.logical + c.loop-j.j * (constants g.edition).pointers ^ d ≡ c.args.logical + c.loop-j.j * c.span-span.result =
    ap (λ n. c.args.logical + c.loop-j.j * n) (sym c.span-span.ensures) in
    let head = single g c.args.level c.args.logical c.args.b in
    record {
      notes = notes_as g c.args.i c.args.table.now c.note_holders.new.table _ (head ∷ entries_before g image d c.args.logical c.args.b (c.loop-j.j + 1))
          (notes_then g c.args.i c.args.table.now c.loop-j.table c.note_holders.new.table (head ∷ entries_before g image d c.args.logical c.args.b c.loop-j.j)
          (holdings_from g image d (c.args.logical + c.loop-j.j * c.span-span.result) c.number-entry.result) c.loop-j.invariant.notes c.note_holders.ensures.notes)
          (ap (λ xs. head ∷ xs) (sym (entries_more g image d c.args.logical c.args.b c.loop-j.j _ _ is at)));
      noted = c.note_holders.ensures.noted;
    }

pub returns : goal.returns
returns t c =
    let g = c.args.geometry.now in
    let image = c.args.image.now in
    let deep = c.if-level-eq0.false in
    let all : c.constants-pointers.result.pointers ≡ (constants g.edition).pointers = ap (λ k. k.pointers) c.constants-pointers.ensures in
    let end : c.loop-j.j ≡ (constants g.edition).pointers = omega (arith, all, c.loop-j-test.false, c.loop-j.auto.j-end) in
    let notes : Notes g c.args.i c.args.table.now c.loop-j.table (holdings_from g image c.args.level c.args.logical c.args.b) =
    notes_as g c.args.i c.args.table.now c.loop-j.table _ (holdings_from g image c.args.level c.args.logical c.args.b) c.loop-j.invariant.notes
    (ap (λ n. single g c.args.level c.args.logical c.args.b ∷ entries_before g image (c.args.level - 1) c.args.logical c.args.b n) end
    ∙ sym (hold_entries g image c.args.level c.args.logical c.args.b c.if-b-eq0.false (omega arith))) in
    record {
      notes = notes;
      noted = noted_marked g image c.args.i c.args.table.now c.loop-j.table c.loop-j.seen c.args.b c.args.level c.args.logical _ notes c.loop-j.invariant.noted refl c.requires.level;
    }

pub returns-then-level-eq0-clause-noted : goal.returns-then-level-eq0-clause-noted
returns-then-level-eq0-clause-noted t c =
    noted_more c.args.geometry.now c.args.image.now c.args.i c.args.table.now c.note_one.new.table c.args.seen.now _ c.note_one.ensures c.requires.noted

pub returns-then-not-in_zone-clause-noted : goal.returns-then-not-in_zone-clause-noted
returns-then-not-in_zone-clause-noted t c =
    noted_more c.args.geometry.now c.args.image.now c.args.i c.args.table.now c.note_one.new.table c.args.seen.now _ c.note_one.ensures c.requires.noted

pub returns-then-seen-at-clause-notes : goal.returns-then-seen-at-clause-notes
returns-then-seen-at-clause-notes t c =
    let g = c.args.geometry.now in
    let image = c.args.image.now in
    let zone : in_zone g c.args.b ≡ true = sym c.in_zone.ensures ∙ c.if-not-in_zone.false in
    let deep = c.if-level-eq0.false in
    let more = noted_more g image c.args.i c.args.table.now c.note_one.new.table c.args.seen.now _ c.note_one.ensures c.requires.noted in
    let all = hold_entries g image c.args.level c.args.logical c.args.b c.if-b-eq0.false (omega arith) in
    notes_as g c.args.i c.args.table.now c.note_one.new.table _ (holdings_from g image c.args.level c.args.logical c.args.b)
    (notes_rest g c.args.i c.args.table.now c.note_one.new.table _ _ c.note_one.ensures
    (λ k inside none. ap (find (is_block k)) (sym all) ∙ more.none c.args.b c.args.level c.args.logical k zone c.requires.level c.if-seen-at.true inside none)) (sym all)

pub returns-then-seen-at-clause-noted : goal.returns-then-seen-at-clause-noted
returns-then-seen-at-clause-noted t c =
    noted_more c.args.geometry.now c.args.image.now c.args.i c.args.table.now c.note_one.new.table c.args.seen.now _ c.note_one.ensures c.requires.noted
