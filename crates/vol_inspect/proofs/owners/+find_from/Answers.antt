use Rattle.std.proofs.Common.{◌≡◌, ◌≢◌, ◌+◌, ◌-◌, ◌*◌, ◌^◌, ℕ, Some, None, sym, ap, refl, arith, ◌∙◌, false, true}
use Rattle.std.specs.List.{find}
use Rattle.vol_layout.specs.Edition.{constants}
use Rattle.vol_layout.specs.Geometry.{in_zone}
use Rattle.vol_layout.specs.BlockPointers.{pointer_in}
use Rattle.vol_layout.proofs.BodyLaws.{zone_bounds}
use Rattle.vol_layout.proofs.CopyLaws.{number_room}
use Rattle.vol_layout.proofs.NameLaws.{entry_in}
use Rattle.vol_free.proofs.Stacks.{zone_behind}
use Rattle.vol_inspect.specs.Extents.{holdings_from}
use Rattle.vol_inspect.specs.Owners.{is_block}
use Rattle.vol_inspect.proofs.Gatherings.{entries_before, entries_none}
use Rattle.vol_inspect.proofs.Owned.{found_here, none_leaf, none_outside, none_below, none_found, passes, stops_with, marked}
use Rattle.vol_inspect.proofs.Spans.{entry_room}
use Rattle.vol_inspect.proofs.owners.+find_from.Goals as goal

pub returns-then-m-b-clause-found : goal.returns-then-m-b-clause-found
returns-then-m-b-clause-found t c =
    let g = c.args.geometry.now in
    let bounds = zone_bounds g c.args.b c.requires.zone in
    let low = zone_behind c.requires.fits in
    let same = c.if-m-b.true in
    let some : c.args.m ≢ 0 = λ e. omega (arith, e, same, bounds.0, low) in
    ap Some c.single.ensures ∙ sym (found_here g c.args.image.now c.args.b c.args.m c.args.level c.args.logical same some)

pub returns-then-level-eq0-clause-found : goal.returns-then-level-eq0-clause-found
returns-then-level-eq0-clause-found t c =
    sym (none_leaf c.args.geometry.now c.args.image.now c.args.b c.args.m c.args.level c.args.logical c.if-m-b.false c.if-level-eq0.true)

pub returns-then-level-eq0-clause-none : goal.returns-then-level-eq0-clause-none
returns-then-level-eq0-clause-none t c = λ none first.
    none_leaf c.args.geometry.now c.args.image.now c.args.b c.args.m c.args.level first c.if-m-b.false c.if-level-eq0.true

pub returns-then-not-in_zone-clause-found : goal.returns-then-not-in_zone-clause-found
returns-then-not-in_zone-clause-found t c =
    let out : in_zone c.args.geometry.now c.args.m ≡ false = sym c.in_zone.ensures ∙ c.if-not-in_zone.true in
    let deep = c.if-level-eq0.false in
    sym (none_outside c.args.geometry.now c.args.image.now c.args.b c.args.m c.args.level c.args.logical c.if-m-b.false (omega arith) out)

pub returns-then-not-in_zone-clause-none : goal.returns-then-not-in_zone-clause-none
returns-then-not-in_zone-clause-none t c = λ none first.
    let out : in_zone c.args.geometry.now c.args.m ≡ false = sym c.in_zone.ensures ∙ c.if-not-in_zone.true in
    let deep = c.if-level-eq0.false in
    none_outside c.args.geometry.now c.args.image.now c.args.b c.args.m c.args.level first c.if-m-b.false (omega arith) out

pub loop-j-init : goal.loop-j-init
loop-j-init t c = record {
  dead = c.requires.dead;
  none = λ first. ap (find (is_block c.args.b)) (entries_none c.args.geometry.now c.args.image.now (c.args.level - 1) first c.args.m);
}

pub number-entry-requires : goal.number-entry-requires
number-entry-requires t c =
    let zone : in_zone c.args.geometry.now c.args.m ≡ true = sym c.in_zone.ensures ∙ c.if-not-in_zone.false in
    let bounds = zone_bounds c.args.geometry.now c.args.m zone in
    let all : c.constants-pointers.result.pointers ≡ (constants c.args.geometry.now.edition).pointers = ap (λ k. k.pointers) c.constants-pointers.ensures in
    let room = number_room c.args.geometry.now.edition c.loop-j.j (omega (arith, all, c.loop-j-test.true)) in
    omega (arith, bounds.1, room, c.requires.fits.blocks)

pub overflow_mul-j : goal.overflow_mul-j
overflow_mul-j t c =
    let p = (constants c.args.geometry.now.edition).pointers in
    let all : c.constants-pointers.result.pointers ≡ p = ap (λ k. k.pointers) c.constants-pointers.ensures in
    let deep = c.if-level-eq0.false in
    let room = entry_room p c.args.level c.args.logical c.loop-j.j c.span-span.result (omega arith) (omega (arith, all, c.loop-j-test.true)) c.span-span.ensures c.requires.room in
    omega (arith, room)

pub overflow_add-logical : goal.overflow_add-logical
overflow_add-logical t c =
    let p = (constants c.args.geometry.now.edition).pointers in
    let all : c.constants-pointers.result.pointers ≡ p = ap (λ k. k.pointers) c.constants-pointers.ensures in
    let deep = c.if-level-eq0.false in
    let room = entry_room p c.args.level c.args.logical c.loop-j.j c.span-span.result (omega arith) (omega (arith, all, c.loop-j-test.true)) c.span-span.ensures c.requires.room in
    omega (arith, room)

pub find_from-found-requires : goal.find_from-found-requires
find_from-found-requires t c =
    let p = (constants c.args.geometry.now.edition).pointers in
    let all : c.constants-pointers.result.pointers ≡ p = ap (λ k. k.pointers) c.constants-pointers.ensures in
    let deep = c.if-level-eq0.false in
    let room = entry_room p c.args.level c.args.logical c.loop-j.j c.span-span.result (omega arith) (omega (arith, all, c.loop-j-test.true)) c.span-span.ensures c.requires.room in
    let here = c.span-span.ensures in
    (omega arith, (c.requires.fits, (omega arith, (omega (arith, room, here), (c.requires.zone, c.loop-j.invariant.dead)))))

pub returns-then-is_some-clause-found : goal.returns-then-is_some-clause-found
returns-then-is_some-clause-found t c =
    let g = c.args.geometry.now in
    let image = c.args.image.now in
    let zone : in_zone g c.args.m ≡ true = sym c.in_zone.ensures ∙ c.if-not-in_zone.false in
    let bounds = zone_bounds g c.args.m zone in
    let low = zone_behind c.requires.fits in
    let some : c.args.m ≢ 0 = λ e. omega (arith, e, bounds.0, low) in
    let all : c.constants-pointers.result.pointers ≡ (constants g.edition).pointers = ap (λ k. k.pointers) c.constants-pointers.ensures in
    let deep = c.if-level-eq0.false in
    let is : pointer_in g image c.args.m c.loop-j.j ≡ c.number-entry.result = entry_in g image c.args.m c.loop-j.j zone ∙ sym c.number-entry.ensures in
    let at : c.args.logical + c.loop-j.j * (constants g.edition).pointers ^ (c.args.level - 1) ≡ c.args.logical + c.loop-j.j * c.span-span.result =
    ap (λ n. c.args.logical + c.loop-j.j * n) (sym c.span-span.ensures) in
    stops_with g image c.args.b c.args.m c.args.level c.args.logical c.loop-j.j _ c.number-entry.result c.find_from-found.result
    (sym c.is_some.ensures ∙ c.if-is_some.true) c.if-m-b.false some (omega arith) (omega (arith, all, c.loop-j-test.true)) at is
    (c.loop-j.invariant.none c.args.logical) c.find_from-found.ensures.found

pub loop-j-preserved : goal.loop-j-preserved
loop-j-preserved t c =
    let g = c.args.geometry.now in
    let image = c.args.image.now in
    let zone : in_zone g c.args.m ≡ true = sym c.in_zone.ensures ∙ c.if-not-in_zone.false in
    let is : pointer_in g image c.args.m c.loop-j.j ≡ c.number-entry.result = entry_in g image c.args.m c.loop-j.j zone ∙ sym c.number-entry.ensures in
    let nothing = none_found c.find_from-found.result (sym c.is_some.ensures ∙ c.if-is_some.false) in
    record {
      dead = c.find_from-found.ensures.dead;
      none = λ first. passes g image c.args.b c.args.m (c.args.level - 1) first c.loop-j.j _ c.number-entry.result refl is (c.loop-j.invariant.none first)
          (c.find_from-found.ensures.none nothing _);
    }

-- no entry leads to the block
below : (t : ℕ) (c : goal.After-loop-j t) (first : ℕ) → find (is_block c.args.b) (holdings_from c.args.geometry.now c.args.image.now c.args.level first c.args.m) ≡ None
below t c first =
    let g = c.args.geometry.now in
    let zone : in_zone g c.args.m ≡ true = sym c.in_zone.ensures ∙ c.if-not-in_zone.false in
    let bounds = zone_bounds g c.args.m zone in
    let low = zone_behind c.requires.fits in
    let some : c.args.m ≢ 0 = λ e. omega (arith, e, bounds.0, low) in
    let all : c.constants-pointers.result.pointers ≡ (constants g.edition).pointers = ap (λ k. k.pointers) c.constants-pointers.ensures in
    let end : c.loop-j.j ≡ (constants g.edition).pointers = omega (arith, all, c.loop-j-test.false, c.loop-j.auto.j-end) in
    let deep = c.if-level-eq0.false in
    none_below g c.args.image.now c.args.b c.args.m c.args.level first c.if-m-b.false some (omega arith)
    (sym (ap (λ n. find (is_block c.args.b) (entries_before g c.args.image.now (c.args.level - 1) first c.args.m n)) end) ∙ c.loop-j.invariant.none first)

pub returns-clause-found : goal.returns-clause-found
returns-clause-found t c = sym (below t c c.args.logical)

pub returns-clause-none : goal.returns-clause-none
returns-clause-none t c = λ none first. below t c first

pub returns-clause-dead : goal.returns-clause-dead
returns-clause-dead t c =
    marked c.args.geometry.now c.args.image.now c.args.b c.loop-j.dead c.args.m c.args.level _ c.loop-j.invariant.dead refl c.requires.level (below t c)
