use Rattle.std.proofs.Common.{◌≡◌, ◌+◌, ◌≤◌, ◌∷◌, ap, arith, refl, sym, ◌∙◌}
use Rattle.vol_layout.specs.Edition.{constants}
use Rattle.vol_layout.specs.declared.edition.Constants.{Constants}
use Rattle.vol_layout.specs.Super.{free_head}
use Rattle.vol_free.proofs.Stacks.{zone_from, zone_behind, head_end}
use Rattle.vol_free.proofs.GivenBlocks.{pushed_above, pushed_first, pushed_chained, head_stays, chained_stays, given_full, given_above, head_given}
use Rattle.vol_free.proofs.free_list.give.Goals as goal

pub returns-then-count-eq0-clause-pushed : goal.returns-then-count-eq0-clause-pushed
returns-then-count-eq0-clause-pushed c = λ blocks free.
    pushed_first c.args.geometry.now c.args.image.now c.put_free.new.image c.push.new.image c.args.b blocks (zone_behind c.requires.fits)
    c.requires.zone free (omega arith) c.put_free.ensures.put
    (record { more = c.push.ensures.count; put = c.push.ensures.put; kept = c.push.ensures.kept }) (c.requires.fresh blocks free)

pub returns-then-count-constants-clause-pushed : goal.returns-then-count-constants-clause-pushed
returns-then-count-constants-clause-pushed c = λ blocks free.
    let two : 2 ≤ c.args.geometry.now.zone_start = zone_behind c.requires.fits in
    let from : c.args.geometry.now.zone_start ≤ c.args.b = zone_from c.args.geometry.now c.args.b c.requires.zone in
    let copied = rw c.free_head.ensures at c.copy_within.ensures.copied in
    pushed_chained c.args.geometry.now c.args.image.now c.copy_within.new.self c.push-then-count-constants.new.image c.args.b blocks two
    c.requires.zone (c.requires.fresh blocks free) free
    (chained_stays (omega arith) c.copy_within.ensures.others c.push-then-count-constants.ensures.others)
    (record { bytes = copied }) c.push-then-count-constants.ensures.others
    (record {
      more = c.push-then-count-constants.ensures.count;
      put = c.push-then-count-constants.ensures.put;
      kept = c.push-then-count-constants.ensures.kept;
    })

pub returns-else-count-constants-clause-pushed : goal.returns-else-count-constants-clause-pushed
returns-else-count-constants-clause-pushed c = λ blocks free.
    let two : 2 ≤ c.args.geometry.now.zone_start = zone_behind c.requires.fits in
    let from : c.args.geometry.now.zone_start ≤ c.args.b = zone_from c.args.geometry.now c.args.b c.requires.zone in
    let slots : c.constants.result.free_slots ≡ (constants c.args.geometry.now.edition).free_slots = ap (λ (n : Constants). n.free_slots) c.constants.ensures in
    pushed_above c.args.geometry.now c.args.image.now c.push-else-count-constants.new.image c.args.b c.free_count-count.result blocks two c.requires.zone
    (c.requires.fresh blocks free) free (head_stays (omega arith) c.push-else-count-constants.ensures.others)
    (sym c.free_count-count.ensures) c.if-count-eq0.false (omega (arith, free.count))
    (record {
      more = c.push-else-count-constants.ensures.count;
      put = c.push-else-count-constants.ensures.put;
      kept = c.push-else-count-constants.ensures.kept;
    })

pub returns-then-count-eq0-clause-stack : goal.returns-then-count-eq0-clause-stack
returns-then-count-eq0-clause-stack c =
    record {
      blocks = c.args.b ∷ c.requires.stack.blocks;
      free = returns-then-count-eq0-clause-pushed c c.requires.stack.blocks c.requires.stack.free;
    }

pub returns-then-count-constants-clause-stack : goal.returns-then-count-constants-clause-stack
returns-then-count-constants-clause-stack c =
    record {
      blocks = c.args.b ∷ c.requires.stack.blocks;
      free = returns-then-count-constants-clause-pushed c c.requires.stack.blocks c.requires.stack.free;
    }

pub returns-else-count-constants-clause-stack : goal.returns-else-count-constants-clause-stack
returns-else-count-constants-clause-stack c =
    record {
      blocks = c.args.b ∷ c.requires.stack.blocks;
      free = returns-else-count-constants-clause-pushed c c.requires.stack.blocks c.requires.stack.free;
    }

pub returns-then-count-eq0-clause-head : goal.returns-then-count-eq0-clause-head
returns-then-count-eq0-clause-head c =
    head_given c.args.geometry.now.edition c.args.image.now c.push.new.image 0 2 (omega arith) refl (omega (arith, c.push.ensures.count))
    (λ k from to. c.push.ensures.past k (omega arith) ∙ c.put_free.ensures.others.above k (omega arith))

pub returns-then-count-constants-clause-head : goal.returns-then-count-constants-clause-head
returns-then-count-constants-clause-head c =
    let two : 2 ≤ c.args.geometry.now.zone_start = zone_behind c.requires.fits in
    let from : c.args.geometry.now.zone_start ≤ c.args.b = zone_from c.args.geometry.now c.args.b c.requires.zone in
    let end : free_head c.args.geometry.now.edition + 202 ≤ 720 = head_end c.args.geometry.now.edition in
    let slots : c.constants.result.free_slots ≡ (constants c.args.geometry.now.edition).free_slots = ap (λ (n : Constants). n.free_slots) c.constants.ensures in
    head_given c.args.geometry.now.edition c.args.image.now c.push-then-count-constants.new.image (constants c.args.geometry.now.edition).free_slots 1
    (omega (arith, slots)) (given_full c.args.geometry.now.edition) (omega (arith, c.push-then-count-constants.ensures.count))
    (λ k low high. c.push-then-count-constants.ensures.past k (omega arith) ∙ c.copy_within.ensures.others.below k (omega arith))

pub returns-else-count-constants-clause-head : goal.returns-else-count-constants-clause-head
returns-else-count-constants-clause-head c =
    let slots : c.constants.result.free_slots ≡ (constants c.args.geometry.now.edition).free_slots = ap (λ (n : Constants). n.free_slots) c.constants.ensures in
    head_given c.args.geometry.now.edition c.args.image.now c.push-else-count-constants.new.image c.free_count-count.result (c.free_count-count.result + 1)
    (sym c.free_count-count.ensures)
    (given_above c.args.geometry.now.edition c.free_count-count.result c.if-count-eq0.false (λ full. c.if-count-constants.false (omega (arith, slots))))
    c.push-else-count-constants.ensures.count (λ k from to. c.push-else-count-constants.ensures.past k (omega arith))
