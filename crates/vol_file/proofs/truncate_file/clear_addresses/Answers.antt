use Rattle.std.proofs.Common.{◌≡◌, ◌-◌, ◌≤◌, arith, sym, ap, subst, ◌∙◌}
use Rattle.vol_layout.specs.Inode.{inode_place, address_at}
use Rattle.vol_layout.specs.BlockPointers.{form_at}
use Rattle.vol_layout.specs.BlockMaps.{first_count, levels}
use Rattle.vol_file.specs.Clears.{first_at, IsNamedAtLevel, ClearsBelow}
use Rattle.vol_file.proofs.Nodes.{addresses_start, addresses_end, addresses_none, addresses_node, addresses_address, addresses_part, addresses_some}
use Rattle.vol_file.proofs.FreedCounts.{gains_none, step_few, step_part, step_gains, zone_some}
use Rattle.vol_file.proofs.truncate_file.clear_addresses.Goals as goal

pub loop-k-init : goal.loop-k-init
loop-k-init c =
    let all : c.address_count-k.result ≡ first_count (form_at c.args.geometry.now c.args.image.now c.args.i) =
    c.address_count-k.ensures ∙ ap first_count c.requires.form in
    record {
      few = omega arith;
      cleared = addresses_start c.args.geometry.now c.args.image.now c.args.i c.args.kept c.address_count-k.result all;
      counted = gains_none c.args.geometry.now c.args.image.now (zone_some c.args.geometry.now c.args.image.now c.requires.sound.sound.fits);
    }

pub clear_below-given-requires : goal.clear_below-given-requires
clear_below-given-requires c =
    let few : c.loop-k.k ≤ first_count (form_at c.args.geometry.now c.args.image.now c.args.i) = c.loop-k.invariant.few in
    let below : c.levels.result ≡ levels (form_at c.args.geometry.now c.args.image.now c.args.i) (c.loop-k.k - 1) =
    c.levels.ensures ∙ ap (λ form. levels form (c.loop-k.k - 1)) c.requires.form in
    subst (IsNamedAtLevel c.args.geometry.now c.loop-k.image c.address-b.result) (sym below)
    (addresses_node c.args.geometry.now c.args.image.now c.loop-k.image c.args.i c.args.kept (c.loop-k.k - 1) c.loop-k.k c.address-b.result c.requires.sound.blocks
    c.requires.file c.loop-k.invariant.cleared c.requires.sound.sound (omega arith) c.address-b.ensures c.if-b-ne0.true)

pub overflow_add-given : goal.overflow_add-given
overflow_add-given c =
    let few : c.loop-k.k ≤ first_count (form_at c.args.geometry.now c.args.image.now c.args.i) = c.loop-k.invariant.few in
    let below : c.levels.result ≡ levels (form_at c.args.geometry.now c.args.image.now c.args.i) (c.loop-k.k - 1) =
    c.levels.ensures ∙ ap (λ form. levels form (c.loop-k.k - 1)) c.requires.form in
    let node = subst (IsNamedAtLevel c.args.geometry.now c.loop-k.image c.address-b.result) (sym below)
    (addresses_node c.args.geometry.now c.args.image.now c.loop-k.image c.args.i c.args.kept (c.loop-k.k - 1) c.loop-k.k c.address-b.result c.requires.sound.blocks
    c.requires.file c.loop-k.invariant.cleared c.requires.sound.sound (omega arith) c.address-b.ensures c.if-b-ne0.true) in
    let bound = step_few c.args.geometry.now c.args.image.now c.loop-k.image c.clear_below-given.new.image c.address-b.result c.levels.result
    c.saturating_sub-rest.result c.loop-k.given c.clear_below-given.result (record { blocks = c.requires.sound.blocks; free = c.requires.sound.sound.free }) node
    c.loop-k.invariant.counted c.clear_below-given.ensures.cleared c.clear_below-given.ensures.counted in
    omega (arith, bound)

pub overflow_add-given-then-rest-eq0 : goal.overflow_add-given-then-rest-eq0
overflow_add-given-then-rest-eq0 c =
    let few : c.loop-k.k ≤ first_count (form_at c.args.geometry.now c.args.image.now c.args.i) = c.loop-k.invariant.few in
    let below : c.levels.result ≡ levels (form_at c.args.geometry.now c.args.image.now c.args.i) (c.loop-k.k - 1) =
    c.levels.ensures ∙ ap (λ form. levels form (c.loop-k.k - 1)) c.requires.form in
    let node = subst (IsNamedAtLevel c.args.geometry.now c.loop-k.image c.address-b.result) (sym below)
    (addresses_node c.args.geometry.now c.args.image.now c.loop-k.image c.args.i c.args.kept (c.loop-k.k - 1) c.loop-k.k c.address-b.result c.requires.sound.blocks
    c.requires.file c.loop-k.invariant.cleared c.requires.sound.sound (omega arith) c.address-b.ensures c.if-b-ne0.true) in
    let bound = step_few c.args.geometry.now c.args.image.now c.loop-k.image c.clear_below-given.new.image c.address-b.result c.levels.result
    c.saturating_sub-rest.result c.loop-k.given c.clear_below-given.result (record { blocks = c.requires.sound.blocks; free = c.requires.sound.sound.free }) node
    c.loop-k.invariant.counted c.clear_below-given.ensures.cleared c.clear_below-given.ensures.counted in
    omega (arith, bound)

pub drop_address-requires : goal.drop_address-requires
drop_address-requires c =
    let few : c.loop-k.k ≤ first_count (form_at c.args.geometry.now c.args.image.now c.args.i) = c.loop-k.invariant.few in
    let below : c.levels.result ≡ levels (form_at c.args.geometry.now c.args.image.now c.args.i) (c.loop-k.k - 1) =
    c.levels.ensures ∙ ap (λ form. levels form (c.loop-k.k - 1)) c.requires.form in
    addresses_address c.args.geometry.now c.args.image.now c.loop-k.image c.clear_below-given.new.image c.args.i c.args.kept c.saturating_sub-rest.result
    (c.loop-k.k - 1) c.loop-k.k c.address-b.result
    c.requires.sound.blocks c.requires.file c.loop-k.invariant.cleared c.requires.sound.sound (omega arith) c.address-b.ensures c.if-b-ne0.true
    (subst (λ d. ClearsBelow c.args.geometry.now c.loop-k.image c.clear_below-given.new.image c.address-b.result d c.saturating_sub-rest.result) below
    c.clear_below-given.ensures.cleared)

pub loop-k-preserved-then-rest-eq0 : goal.loop-k-preserved-then-rest-eq0
loop-k-preserved-then-rest-eq0 c =
    let few : c.loop-k.k ≤ first_count (form_at c.args.geometry.now c.args.image.now c.args.i) = c.loop-k.invariant.few in
    let below : c.levels.result ≡ levels (form_at c.args.geometry.now c.args.image.now c.args.i) (c.loop-k.k - 1) =
    c.levels.ensures ∙ ap (λ form. levels form (c.loop-k.k - 1)) c.requires.form in
    let left : c.saturating_sub-rest.result ≡ c.args.kept - first_at (form_at c.args.geometry.now c.args.image.now c.args.i) (c.loop-k.k - 1) =
    c.saturating_sub-rest.ensures ∙ ap (λ x. c.args.kept - x) (c.first_at.ensures ∙ ap (λ form. first_at form (c.loop-k.k - 1)) c.requires.form) in
    let node = subst (IsNamedAtLevel c.args.geometry.now c.loop-k.image c.address-b.result) (sym below)
    (addresses_node c.args.geometry.now c.args.image.now c.loop-k.image c.args.i c.args.kept (c.loop-k.k - 1) c.loop-k.k c.address-b.result c.requires.sound.blocks
    c.requires.file c.loop-k.invariant.cleared c.requires.sound.sound (omega arith) c.address-b.ensures c.if-b-ne0.true) in
    record {
      few = omega arith;
      cleared = addresses_some c.args.geometry.now c.args.image.now c.loop-k.image c.clear_below-given.new.image c.drop_address.new.image c.args.i
          c.args.kept c.saturating_sub-rest.result
          (c.loop-k.k - 1) c.loop-k.k c.address-b.result (omega arith) few c.requires.file c.address-b.ensures c.if-b-ne0.true
          left c.if-rest-eq0.true c.loop-k.invariant.cleared
          (subst (λ d. ClearsBelow c.args.geometry.now c.loop-k.image c.clear_below-given.new.image c.address-b.result d c.saturating_sub-rest.result) below
          c.clear_below-given.ensures.cleared)
          c.drop_address.ensures.dropped;
      counted = step_gains c.args.geometry.now c.args.image.now c.loop-k.image c.clear_below-given.new.image c.drop_address.new.image c.address-b.result
          c.levels.result c.saturating_sub-rest.result c.loop-k.given c.clear_below-given.result node c.loop-k.invariant.counted
          c.clear_below-given.ensures.cleared c.clear_below-given.ensures.counted c.drop_address.ensures.counted;
    }

pub loop-k-preserved-else-rest-eq0 : goal.loop-k-preserved-else-rest-eq0
loop-k-preserved-else-rest-eq0 c =
    let few : c.loop-k.k ≤ first_count (form_at c.args.geometry.now c.args.image.now c.args.i) = c.loop-k.invariant.few in
    let below : c.levels.result ≡ levels (form_at c.args.geometry.now c.args.image.now c.args.i) (c.loop-k.k - 1) =
    c.levels.ensures ∙ ap (λ form. levels form (c.loop-k.k - 1)) c.requires.form in
    let left : c.saturating_sub-rest.result ≡ c.args.kept - first_at (form_at c.args.geometry.now c.args.image.now c.args.i) (c.loop-k.k - 1) =
    c.saturating_sub-rest.ensures ∙ ap (λ x. c.args.kept - x) (c.first_at.ensures ∙ ap (λ form. first_at form (c.loop-k.k - 1)) c.requires.form) in
    let node = subst (IsNamedAtLevel c.args.geometry.now c.loop-k.image c.address-b.result) (sym below)
    (addresses_node c.args.geometry.now c.args.image.now c.loop-k.image c.args.i c.args.kept (c.loop-k.k - 1) c.loop-k.k c.address-b.result c.requires.sound.blocks
    c.requires.file c.loop-k.invariant.cleared c.requires.sound.sound (omega arith) c.address-b.ensures c.if-b-ne0.true) in
    record {
      few = omega arith;
      cleared = addresses_part c.args.geometry.now c.args.image.now c.loop-k.image c.clear_below-given.new.image c.args.i
          c.args.kept c.saturating_sub-rest.result
          (c.loop-k.k - 1) c.loop-k.k c.address-b.result (omega arith) few c.requires.file c.address-b.ensures c.if-b-ne0.true
          left c.if-rest-eq0.false c.loop-k.invariant.cleared
          (subst (λ d. ClearsBelow c.args.geometry.now c.loop-k.image c.clear_below-given.new.image c.address-b.result d c.saturating_sub-rest.result) below
          c.clear_below-given.ensures.cleared);
      counted = step_part c.args.geometry.now c.args.image.now c.loop-k.image c.clear_below-given.new.image c.address-b.result
          c.levels.result c.loop-k.given c.clear_below-given.result node c.loop-k.invariant.counted c.clear_below-given.ensures.counted;
    }

pub loop-k-preserved : goal.loop-k-preserved
loop-k-preserved c =
    let few : c.loop-k.k ≤ first_count (form_at c.args.geometry.now c.args.image.now c.args.i) = c.loop-k.invariant.few in
    let none : address_at c.args.geometry.now.edition c.loop-k.image (inode_place c.args.geometry.now.edition c.args.i) (c.loop-k.k - 1) ≡ 0 =
    omega (arith, c.address-b.ensures) in
    record {
      few = omega arith;
      cleared = addresses_none c.args.geometry.now c.args.image.now c.loop-k.image c.args.i c.args.kept (c.loop-k.k - 1) c.loop-k.k
          (omega arith) few c.requires.file none c.loop-k.invariant.cleared;
      counted = c.loop-k.invariant.counted;
    }

pub returns-clause-cleared : goal.returns-clause-cleared
returns-clause-cleared c =
    addresses_end c.args.geometry.now c.args.image.now c.loop-k.image c.args.i c.args.kept c.loop-k.k (omega arith) c.requires.file c.loop-k.invariant.cleared
