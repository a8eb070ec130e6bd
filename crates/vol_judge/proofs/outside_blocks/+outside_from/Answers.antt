use Rattle.std.proofs.Common.{◌≡◌, ◌+◌, ◌-◌, ◌<◌, length, sym, ap, refl, arith, ◌∙◌, true, None, Some, get_or}
use Rattle.vol_layout.specs.Edition.{constants}
use Rattle.vol_layout.specs.Geometry.{in_zone}
use Rattle.vol_layout.specs.BlockPointers.{pointer_in}
use Rattle.vol_layout.proofs.BodyLaws.{zone_bounds}
use Rattle.vol_layout.proofs.NameLaws.{entry_in}
use Rattle.vol_judge.specs.Marks.{blocks_from}
use Rattle.vol_judge.proofs.BlocksFrom.{entries_from}
use Rattle.vol_judge.proofs.Insides.{inside_less, knows_more}
use Rattle.vol_judge.specs.OutsideBlocks.{first_outside}
use Rattle.vol_judge.proofs.Outsides.{out_zero, out_here, out_below, entries_start, entries_next, entries_stop, entries_zeros, none_inside, inside_none}
use Rattle.vol_judge.proofs.outside_blocks.+outside_from.Goals as goal

pub returns-then-b-eq0-clause-exact : goal.returns-then-b-eq0-clause-exact
returns-then-b-eq0-clause-exact t c = sym (out_zero c.args.geometry.now c.args.image.now c.args.level c.args.b c.if-b-eq0.true)

pub returns-then-not-in_zone-clause-exact : goal.returns-then-not-in_zone-clause-exact
returns-then-not-in_zone-clause-exact t c =
    sym (out_here c.args.geometry.now c.args.image.now c.args.level c.args.b c.if-b-eq0.false (sym c.in_zone.ensures ∙ c.if-not-in_zone.true))

pub returns-then-level-known-clause-exact : goal.returns-then-level-known-clause-exact
returns-then-level-known-clause-exact t c =
    sym (inside_none c.args.geometry.now c.args.image.now c.args.level c.args.b
    (inside_less c.args.geometry.now c.args.image.now c.args.level (get_or c.args.known.now c.args.b 0) c.args.b c.if-level-known.true
    (c.requires.known c.args.b (sym c.in_zone.ensures ∙ c.if-not-in_zone.false))))

pub loop-j-init : goal.loop-j-init
loop-j-init t c =
    let g = c.args.geometry.now in
    let image = c.args.image.now in
    record {
      entries = entries_zeros g image (c.args.level - 1) c.args.b 0 c.next_pointer-j.result c.next_pointer-j.result (omega arith) c.next_pointer-j.ensures.zeros
          (entries_start g image (c.args.level - 1) c.args.b);
      known = c.requires.known;
      within = c.next_pointer-j.ensures.within;
    }

pub returns-in-Some-clause-exact : goal.returns-in-Some-clause-exact
returns-in-Some-clause-exact t c =
    let g = c.args.geometry.now in
    let image = c.args.image.now in
    let zone : in_zone g c.args.b ≡ true = sym c.in_zone.ensures ∙ c.if-not-in_zone.false in
    let all : c.constants-pointers.result.pointers ≡ (constants g.edition).pointers = ap (λ k. k.pointers) c.constants-pointers.ensures in
    let is : pointer_in g image c.args.b c.loop-j.j ≡ c.number-entry.result = entry_in g image c.args.b c.loop-j.j zone ∙ sym c.number-entry.ensures in
    let some : first_outside g (blocks_from g image (c.args.level - 1) (pointer_in g image c.args.b c.loop-j.j)) ≡ Some c.in-Some.found =
    ap (λ e. first_outside g (blocks_from g image (c.args.level - 1) e)) is ∙ sym c.in-Some.ensures.exact in
    sym (out_below g image c.args.level c.args.b c.if-b-eq0.false (omega arith) zone
    ∙ entries_stop g image (c.args.level - 1) c.args.b c.loop-j.j (constants g.edition).pointers c.in-Some.found
    (omega (arith, all, c.loop-j-test.true)) c.loop-j.invariant.entries some)

pub loop-j-preserved : goal.loop-j-preserved
loop-j-preserved t c =
    let g = c.args.geometry.now in
    let image = c.args.image.now in
    let d = c.args.level - 1 in
    let zone : in_zone g c.args.b ≡ true = sym c.in_zone.ensures ∙ c.if-not-in_zone.false in
    let is : pointer_in g image c.args.b c.loop-j.j ≡ c.number-entry.result = entry_in g image c.args.b c.loop-j.j zone ∙ sym c.number-entry.ensures in
    let next = c.next_pointer-j-in-loop-j in
    let none : first_outside g (blocks_from g image d (pointer_in g image c.args.b c.loop-j.j)) ≡ None =
    ap (λ e. first_outside g (blocks_from g image d e)) is ∙ (sym c.outside_from.ensures.exact ∙ c.in_default.is) in
    record {
      entries = entries_zeros g image d c.args.b (c.loop-j.j + 1) (next.result - (c.loop-j.j + 1)) next.result (omega (arith, next.ensures.order))
          next.ensures.zeros (entries_next g image d c.args.b c.loop-j.j (c.loop-j.j + 1) None refl c.loop-j.invariant.entries none);
      known = c.outside_from.ensures.known;
      within = next.ensures.within;
    }

pub returns-clause-exact : goal.returns-clause-exact
returns-clause-exact t c =
    let g = c.args.geometry.now in
    let image = c.args.image.now in
    let zone : in_zone g c.args.b ≡ true = sym c.in_zone.ensures ∙ c.if-not-in_zone.false in
    let all : c.constants-pointers.result.pointers ≡ (constants g.edition).pointers = ap (λ k. k.pointers) c.constants-pointers.ensures in
    let end : (constants g.edition).pointers ≡ c.loop-j.j = omega (arith, all, c.loop-j-test.false, c.loop-j.invariant.within) in
    sym (out_below g image c.args.level c.args.b c.if-b-eq0.false (omega arith) zone
    ∙ (ap (λ n. first_outside g (entries_from g image (c.args.level - 1) c.args.b n)) end ∙ c.loop-j.invariant.entries))

pub returns-clause-known : goal.returns-clause-known
returns-clause-known t c =
    let g = c.args.geometry.now in
    let image = c.args.image.now in
    let zone : in_zone g c.args.b ≡ true = sym c.in_zone.ensures ∙ c.if-not-in_zone.false in
    let all : c.constants-pointers.result.pointers ≡ (constants g.edition).pointers = ap (λ k. k.pointers) c.constants-pointers.ensures in
    let end : (constants g.edition).pointers ≡ c.loop-j.j = omega (arith, all, c.loop-j-test.false, c.loop-j.invariant.within) in
    let bounds = zone_bounds g c.args.b zone in
    let within : c.args.b < length c.loop-j.known = omega (arith, bounds.1, c.requires.len, c.loop-j.auto.known) in
    knows_more g image c.loop-j.known c.args.b c.args.level within
    (none_inside g image c.args.level c.args.b c.requires.fits
    (out_below g image c.args.level c.args.b c.if-b-eq0.false (omega arith) zone
    ∙ (ap (λ n. first_outside g (entries_from g image (c.args.level - 1) c.args.b n)) end ∙ c.loop-j.invariant.entries)))
    c.loop-j.invariant.known
