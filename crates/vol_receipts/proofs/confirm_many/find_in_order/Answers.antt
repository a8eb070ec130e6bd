use Rattle.std.proofs.Common.{◌-◌, get_or, subst, arith, rules}
use Rattle.vol_receipts.specs.Replay.{HasAtMost}
use Rattle.vol_receipts.proofs.FoundReceipts.{found_more, found_all, at_most_more, place_within, receipt_at, later_number}
use Rattle.vol_receipts.proofs.confirm_many.find_in_order.Goals as goal

pub bounds-receipts-numbered : goal.bounds-receipts-numbered
bounds-receipts-numbered c = place_within c.args.receipts.now c.args.order.now c.loop-numbered.numbered-index (record { at = 0; index = 0 }) c.requires.right c.loop-numbered-test.true

pub offset_bounds-receipts-numbered : goal.offset_bounds-receipts-numbered
offset_bounds-receipts-numbered c =
    let within = place_within c.args.receipts.now c.args.order.now c.loop-numbered.numbered-index (record { at = 0; index = 0 }) c.requires.right c.loop-numbered-test.true in
    search rules

pub find-requires : goal.find-requires
find-requires c =
    let here = receipt_at c.args.receipts.now c.args.order.now c.loop-numbered.numbered-index (record { at = 0; index = 0 }) c.index-receipts-numbered.result c.requires.right c.loop-numbered-test.true c.index-receipts-numbered.is in
    subst (λ at. HasAtMost c.args.volume.now c.loop-numbered.again (at - c.args.volume.now.first)) here.1
    (c.loop-numbered.invariant.behind c.loop-numbered.numbered-index (record { at = 0; index = 0 }) (omega arith) c.loop-numbered-test.true)

pub index_mut-requires : goal.index_mut-requires
index_mut-requires c =
    let within = place_within c.args.receipts.now c.args.order.now c.loop-numbered.numbered-index (record { at = 0; index = 0 }) c.requires.right c.loop-numbered-test.true in
    omega (arith, within, c.loop-numbered.invariant.found.len)

pub loop-numbered-preserved : goal.loop-numbered-preserved
loop-numbered-preserved c =
    let here = receipt_at c.args.receipts.now c.args.order.now c.loop-numbered.numbered-index (record { at = 0; index = 0 }) c.index-receipts-numbered.result c.requires.right c.loop-numbered-test.true c.index-receipts-numbered.is in
    record {
      found = found_more _ _ c.args.receipts.now c.args.order.now c.loop-numbered.findings.items c.loop-numbered.numbered-index
          c.index-receipts-numbered.result c.in_ok-findings-2.field-0 (record { at = 0; index = 0 }) c.loop-numbered.invariant.found here.0
          c.loop-numbered-test.true c.in_ok-findings-2.ensures.found;
      behind = λ j d above below.
          at_most_more c.args.volume.now c.find.new.again (c.index-receipts-numbered.result.at - c.args.volume.now.first)
          ((get_or c.args.order.now j d).at - c.args.volume.now.first)
          (later_number c.args.order.now c.loop-numbered.numbered-index j (record { at = 0; index = 0 }) d c.index-receipts-numbered.result.at
          c.args.volume.now.first c.requires.ascending here.1 above below)
          c.in_ok-findings-2.ensures.behind;
    }

pub returns : goal.returns
returns c =
    found_all _ _ c.args.receipts.now c.args.order.now c.loop-numbered.findings.items c.loop-numbered.numbered-index c.requires
    (omega arith) c.loop-numbered.invariant.found
