use Rattle.std.proofs.Common.{◌≡◌, ◌-◌, ◌*◌, ◌/◌, ◌^◌, ◌≤◌, arith, sym, ap, subst, ◌∙◌, ◌∷◌}
use Rattle.std.proofs.Math.Nat.{one-le-pow}
use Rattle.vol_layout.specs.Edition.{constants, number}
use Rattle.vol_layout.specs.BlockPointers.{form_at}
use Rattle.vol_file.specs.Clears.{ClearsBelow}
use Rattle.vol_file.proofs.FirstBlocks.{levels_few, some_edition}
use Rattle.vol_file.proofs.Nodes.{below_none, entries_start, entries_end, entries_room, entries_none, entries_node, entries_entry, entries_part, entries_some}
use Rattle.vol_file.proofs.FreedCounts.{gains_none, step_few, step_part, step_gains, zone_some}
use Rattle.vol_file.proofs.truncate_file.+clear_below.Goals as goal

pub returns-then-level-eq0 : goal.returns-then-level-eq0
returns-then-level-eq0 t c =
    let none : c.args.level ≡ 0 = c.if-level-eq0.true in
    let below = below_none c.args.geometry.now c.args.image.now c.args.m c.args.kept in
    record {
      cleared = subst (λ d. ClearsBelow c.args.geometry.now c.args.image.now c.args.image.now c.args.m d c.args.kept) (sym none) below;
      counted = gains_none c.args.geometry.now c.args.image.now (zone_some c.args.geometry.now c.args.image.now c.requires.sound.fits);
    }

pub loop-j-init : goal.loop-j-init
loop-j-init t c =
    let all : c.constants-j.result.pointers ≡ (constants c.args.geometry.now.edition).pointers = ap (λ k. k.pointers) c.constants-j.ensures in
    record {
      few = omega arith;
      cleared = entries_start c.args.geometry.now c.args.image.now c.args.m c.args.level c.args.kept c.constants-j.result.pointers all;
      counted = gains_none c.args.geometry.now c.args.image.now (zone_some c.args.geometry.now c.args.image.now c.requires.sound.fits);
    }

pub blocks_below-below-requires : goal.blocks_below-below-requires
blocks_below-below-requires t c =
    let node = c.requires in
    let few = levels_few (form_at c.args.geometry.now c.args.image.now node.file) (node.index ∷ node.place) node.is.place.place in
    omega (arith, few, node.below)

pub nonzero_div-first : goal.nonzero_div-first
nonzero_div-first t c =
    let n = (constants c.args.geometry.now.edition).pointers in
    let some : 1 ≤ n ^ (c.args.level - 1) = one-le-pow (c.args.level - 1) n (some_edition c.args.geometry.now.edition) in
    omega (arith, some, c.blocks_below-below.ensures.exact)

pub number-b-requires : goal.number-b-requires
number-b-requires t c =
    let few : c.loop-j.j ≤ (constants c.args.geometry.now.edition).pointers = c.loop-j.invariant.few in
    entries_room c.args.geometry.now c.args.image.now c.loop-j.image c.args.m c.args.level c.args.kept (c.loop-j.j - 1) c.loop-j.j
    c.loop-j.invariant.cleared c.requires (omega arith)

pub clear_below-given-requires : goal.clear_below-given-requires
clear_below-given-requires t c =
    let few : c.loop-j.j ≤ (constants c.args.geometry.now.edition).pointers = c.loop-j.invariant.few in (
      omega arith,
      entries_node c.args.geometry.now c.args.image.now c.loop-j.image c.args.m c.args.level c.args.kept (c.loop-j.j - 1) c.loop-j.j c.number-b.result
          c.loop-j.invariant.cleared c.requires (omega arith) (omega arith) c.number-b.ensures c.if-b-ne0.true,
    )

pub overflow_add-given : goal.overflow_add-given
overflow_add-given t c =
    let few : c.loop-j.j ≤ (constants c.args.geometry.now.edition).pointers = c.loop-j.invariant.few in
    let node = entries_node c.args.geometry.now c.args.image.now c.loop-j.image c.args.m c.args.level c.args.kept (c.loop-j.j - 1) c.loop-j.j c.number-b.result
    c.loop-j.invariant.cleared c.requires (omega arith) (omega arith) c.number-b.ensures c.if-b-ne0.true in
    let bound = step_few c.args.geometry.now c.args.image.now c.loop-j.image c.clear_below-given.new.image c.number-b.result (c.args.level - 1)
    c.saturating_sub-rest.result c.loop-j.given c.clear_below-given.result (record { blocks = c.requires.blocks; free = c.requires.sound.free }) node
    c.loop-j.invariant.counted c.clear_below-given.ensures.cleared c.clear_below-given.ensures.counted in
    omega (arith, bound)

pub overflow_add-given-then-rest-eq0 : goal.overflow_add-given-then-rest-eq0
overflow_add-given-then-rest-eq0 t c =
    let few : c.loop-j.j ≤ (constants c.args.geometry.now.edition).pointers = c.loop-j.invariant.few in
    let node = entries_node c.args.geometry.now c.args.image.now c.loop-j.image c.args.m c.args.level c.args.kept (c.loop-j.j - 1) c.loop-j.j c.number-b.result
    c.loop-j.invariant.cleared c.requires (omega arith) (omega arith) c.number-b.ensures c.if-b-ne0.true in
    let bound = step_few c.args.geometry.now c.args.image.now c.loop-j.image c.clear_below-given.new.image c.number-b.result (c.args.level - 1)
    c.saturating_sub-rest.result c.loop-j.given c.clear_below-given.result (record { blocks = c.requires.blocks; free = c.requires.sound.free }) node
    c.loop-j.invariant.counted c.clear_below-given.ensures.cleared c.clear_below-given.ensures.counted in
    omega (arith, bound)

pub drop_entry-requires : goal.drop_entry-requires
drop_entry-requires t c =
    let few : c.loop-j.j ≤ (constants c.args.geometry.now.edition).pointers = c.loop-j.invariant.few in
    entries_entry c.args.geometry.now c.args.image.now c.loop-j.image c.clear_below-given.new.image c.args.m c.args.level c.args.kept c.saturating_sub-rest.result
    (c.loop-j.j - 1) c.loop-j.j c.number-b.result
    c.loop-j.invariant.cleared c.requires (omega arith) (omega arith) c.number-b.ensures c.if-b-ne0.true c.clear_below-given.ensures.cleared

pub loop-j-preserved-then-rest-eq0 : goal.loop-j-preserved-then-rest-eq0
loop-j-preserved-then-rest-eq0 t c =
    let few : c.loop-j.j ≤ (constants c.args.geometry.now.edition).pointers = c.loop-j.invariant.few in
    let left : c.saturating_sub-rest.result ≡ c.args.kept - (c.loop-j.j - 1) * (constants c.args.geometry.now.edition).pointers ^ (c.args.level - 1) =
    c.saturating_sub-rest.ensures ∙ ap (λ w. c.args.kept - (c.loop-j.j - 1) * w) c.blocks_below-below.ensures.exact in
    record {
      few = omega arith;
      cleared = entries_some c.args.geometry.now c.args.image.now c.loop-j.image c.clear_below-given.new.image c.drop_entry.new.image c.args.m c.args.level
          c.args.kept c.saturating_sub-rest.result (c.loop-j.j - 1) c.loop-j.j c.number-b.result (omega arith) few (omega arith) c.number-b.ensures c.if-b-ne0.true
          left c.if-rest-eq0.true c.loop-j.invariant.cleared c.clear_below-given.ensures.cleared c.drop_entry.ensures.dropped;
      counted = step_gains c.args.geometry.now c.args.image.now c.loop-j.image c.clear_below-given.new.image c.drop_entry.new.image c.number-b.result
          (c.args.level - 1) c.saturating_sub-rest.result c.loop-j.given c.clear_below-given.result
          (entries_node c.args.geometry.now c.args.image.now c.loop-j.image c.args.m c.args.level c.args.kept (c.loop-j.j - 1) c.loop-j.j c.number-b.result
          c.loop-j.invariant.cleared c.requires (omega arith) (omega arith) c.number-b.ensures c.if-b-ne0.true)
          c.loop-j.invariant.counted c.clear_below-given.ensures.cleared c.clear_below-given.ensures.counted c.drop_entry.ensures.counted;
    }

pub loop-j-preserved-else-rest-eq0 : goal.loop-j-preserved-else-rest-eq0
loop-j-preserved-else-rest-eq0 t c =
    let few : c.loop-j.j ≤ (constants c.args.geometry.now.edition).pointers = c.loop-j.invariant.few in
    let left : c.saturating_sub-rest.result ≡ c.args.kept - (c.loop-j.j - 1) * (constants c.args.geometry.now.edition).pointers ^ (c.args.level - 1) =
    c.saturating_sub-rest.ensures ∙ ap (λ w. c.args.kept - (c.loop-j.j - 1) * w) c.blocks_below-below.ensures.exact in
    record {
      few = omega arith;
      cleared = entries_part c.args.geometry.now c.args.image.now c.loop-j.image c.clear_below-given.new.image c.args.m c.args.level
          c.args.kept c.saturating_sub-rest.result (c.loop-j.j - 1) c.loop-j.j c.number-b.result (omega arith) few (omega arith) c.number-b.ensures c.if-b-ne0.true
          left c.if-rest-eq0.false c.loop-j.invariant.cleared c.clear_below-given.ensures.cleared;
      counted = step_part c.args.geometry.now c.args.image.now c.loop-j.image c.clear_below-given.new.image c.number-b.result
          (c.args.level - 1) c.loop-j.given c.clear_below-given.result
          (entries_node c.args.geometry.now c.args.image.now c.loop-j.image c.args.m c.args.level c.args.kept (c.loop-j.j - 1) c.loop-j.j c.number-b.result
          c.loop-j.invariant.cleared c.requires (omega arith) (omega arith) c.number-b.ensures c.if-b-ne0.true)
          c.loop-j.invariant.counted c.clear_below-given.ensures.counted;
    }

pub loop-j-preserved : goal.loop-j-preserved
loop-j-preserved t c =
    let few : c.loop-j.j ≤ (constants c.args.geometry.now.edition).pointers = c.loop-j.invariant.few in
    let none : number c.args.geometry.now.edition c.loop-j.image (512 * c.args.m) (c.loop-j.j - 1) ≡ 0 = omega (arith, c.number-b.ensures) in
    record {
      few = omega arith;
      cleared = entries_none c.args.geometry.now c.args.image.now c.loop-j.image c.args.m c.args.level c.args.kept (c.loop-j.j - 1) c.loop-j.j
          (omega arith) few (omega arith) none c.loop-j.invariant.cleared;
      counted = c.loop-j.invariant.counted;
    }

pub returns-clause-cleared : goal.returns-clause-cleared
returns-clause-cleared t c =
    let few : c.loop-j.j ≤ (constants c.args.geometry.now.edition).pointers = c.loop-j.invariant.few in
    let within : c.loop-j.j ≤ c.args.kept / c.blocks_below-below.result = omega arith in
    entries_end c.args.geometry.now c.args.image.now c.loop-j.image c.args.m c.args.level c.args.kept c.loop-j.j (omega arith) few
    (subst (λ w. c.loop-j.j ≤ c.args.kept / w) c.blocks_below-below.ensures.exact within) c.loop-j.invariant.cleared
