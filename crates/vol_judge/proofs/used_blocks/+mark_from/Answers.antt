use Rattle.std.proofs.Common.{◌≡◌, ◌+◌, ◌-◌, ◌<◌, length, sym, ap, subst, refl, arith, ◌∙◌, true, set}
use Rattle.vol_layout.specs.Edition.{constants}
use Rattle.vol_layout.specs.Geometry.{in_zone}
use Rattle.vol_layout.specs.BlockPointers.{pointer_in}
use Rattle.vol_layout.proofs.BodyLaws.{zone_bounds}
use Rattle.vol_layout.proofs.NameLaws.{entry_in, zone_some}
use Rattle.vol_judge.specs.Marks.{ExtendsMarks, blocks_from}
use Rattle.vol_judge.proofs.BlocksFrom.{entries_from}
use Rattle.vol_judge.proofs.MoreMarks.{ext_out, ext_again, ext_leaf, ext_from, ext_start, ext_entry, ext_zeros, known_more}
use Rattle.vol_judge.proofs.used_blocks.+mark_from.Goals as goal

pub returns-then-not-in_zone-clause-extends : goal.returns-then-not-in_zone-clause-extends
returns-then-not-in_zone-clause-extends t c =
    ext_out c.args.geometry.now c.args.image.now c.args.level c.args.b c.args.marks.now (sym c.in_zone.ensures ∙ c.if-not-in_zone.true)

pub returns-then-level-marks-clause-extends : goal.returns-then-level-marks-clause-extends
returns-then-level-marks-clause-extends t c =
    ext_again c.args.geometry.now c.args.image.now c.args.level c.args.b c.args.marks.now c.requires.known c.if-level-marks.true

pub returns-then-level-eq0-clause-extends : goal.returns-then-level-eq0-clause-extends
returns-then-level-eq0-clause-extends t c =
    let g = c.args.geometry.now in
    let image = c.args.image.now in
    let marks = c.args.marks.now in
    let zone : in_zone g c.args.b ≡ true = sym c.in_zone.ensures ∙ c.if-not-in_zone.false in
    let bounds = zone_bounds g c.args.b zone in
    subst (λ d. ExtendsMarks g (blocks_from g image d c.args.b) marks (set marks c.args.b 1)) (sym c.if-level-eq0.true)
    (ext_leaf g image c.args.b marks (zone_some g image c.args.b c.requires.fits zone) (omega (arith, bounds.1, c.requires.len)))

pub returns-then-level-eq0-clause-known : goal.returns-then-level-eq0-clause-known
returns-then-level-eq0-clause-known t c =
    let g = c.args.geometry.now in
    let image = c.args.image.now in
    let marks = c.args.marks.now in
    let zone : in_zone g c.args.b ≡ true = sym c.in_zone.ensures ∙ c.if-not-in_zone.false in
    let bounds = zone_bounds g c.args.b zone in
    let within : c.args.b < length marks = omega (arith, bounds.1, c.requires.len) in
    known_more g image marks c.args.b 0 within c.requires.known
    (ext_leaf g image c.args.b marks (zone_some g image c.args.b c.requires.fits zone) within).all

pub loop-j-init : goal.loop-j-init
loop-j-init t c =
    let g = c.args.geometry.now in
    let image = c.args.image.now in
    let d = c.args.level - 1 in
    record {
      entries = ext_zeros g image d c.args.b 0 c.next_pointer-j.result c.next_pointer-j.result c.args.marks.now c.args.marks.now (omega arith)
          c.next_pointer-j.ensures.zeros (ext_start g image d c.args.b c.args.marks.now);
      known = c.requires.known;
      within = c.next_pointer-j.ensures.within;
    }

pub loop-j-preserved : goal.loop-j-preserved
loop-j-preserved t c =
    let g = c.args.geometry.now in
    let image = c.args.image.now in
    let d = c.args.level - 1 in
    let j = c.loop-j.j in
    let new = c.mark_from.new.marks in
    let next = c.next_pointer-j-in-loop-j in
    let zone : in_zone g c.args.b ≡ true = sym c.in_zone.ensures ∙ c.if-not-in_zone.false in
    let is : c.number-entry.result ≡ pointer_in g image c.args.b j = c.number-entry.ensures ∙ sym (entry_in g image c.args.b j zone) in
    let last : ExtendsMarks g (blocks_from g image d (pointer_in g image c.args.b j)) c.loop-j.marks new =
    subst (λ e. ExtendsMarks g (blocks_from g image d e) c.loop-j.marks new) is c.mark_from.ensures.extends in
    record {
      entries = ext_zeros g image d c.args.b (j + 1) (next.result - (j + 1)) next.result c.args.marks.now new (omega (arith, next.ensures.order))
          next.ensures.zeros (ext_entry g image d c.args.b j (j + 1) c.args.marks.now c.loop-j.marks new refl c.loop-j.invariant.entries last);
      known = c.mark_from.ensures.known;
      within = next.ensures.within;
    }

pub returns-clause-extends : goal.returns-clause-extends
returns-clause-extends t c =
    let g = c.args.geometry.now in
    let image = c.args.image.now in
    let zone : in_zone g c.args.b ≡ true = sym c.in_zone.ensures ∙ c.if-not-in_zone.false in
    let bounds = zone_bounds g c.args.b zone in
    let all : c.constants-pointers.result.pointers ≡ (constants g.edition).pointers = ap (λ k. k.pointers) c.constants-pointers.ensures in
    let end : c.loop-j.j ≡ (constants g.edition).pointers = omega (arith, all, c.loop-j-test.false, c.loop-j.invariant.within) in
    ext_from g image c.args.level c.args.b c.args.marks.now c.loop-j.marks (zone_some g image c.args.b c.requires.fits zone) (omega arith)
    (omega (arith, bounds.1, c.requires.len, c.loop-j.auto.marks))
    (subst (λ n. ExtendsMarks g (entries_from g image (c.args.level - 1) c.args.b n) c.args.marks.now c.loop-j.marks) end c.loop-j.invariant.entries)

pub returns-clause-known : goal.returns-clause-known
returns-clause-known t c =
    let g = c.args.geometry.now in
    let image = c.args.image.now in
    let zone : in_zone g c.args.b ≡ true = sym c.in_zone.ensures ∙ c.if-not-in_zone.false in
    let bounds = zone_bounds g c.args.b zone in
    let all : c.constants-pointers.result.pointers ≡ (constants g.edition).pointers = ap (λ k. k.pointers) c.constants-pointers.ensures in
    let end : c.loop-j.j ≡ (constants g.edition).pointers = omega (arith, all, c.loop-j-test.false, c.loop-j.invariant.within) in
    let within : c.args.b < length c.loop-j.marks = omega (arith, bounds.1, c.requires.len, c.loop-j.auto.marks) in
    known_more g image c.loop-j.marks c.args.b c.args.level within c.loop-j.invariant.known
    (ext_from g image c.args.level c.args.b c.args.marks.now c.loop-j.marks (zone_some g image c.args.b c.requires.fits zone) (omega arith) within
    (subst (λ n. ExtendsMarks g (entries_from g image (c.args.level - 1) c.args.b n) c.args.marks.now c.loop-j.marks) end c.loop-j.invariant.entries)).all
