use Rattle.std.proofs.Common.{◌≡◌, ◌+◌, length, refl, rules, sym, subst}
use Rattle.std.specs.Prelude.{Some}
use Rattle.std.specs.List.{slice_get}
use Rattle.std.proofs.lemmas.List.Sorted.{IsNonDecreasingBy-from_sort_by_key}
use Rattle.std.proofs.lemmas.Option.{slice_get_read}
use Rattle.vol_receipts.proofs.FoundReceipts.{AreNumbered, numbered_more, in_order}
use Rattle.vol_receipts.proofs.confirm_many.by_number.Goals as goal

pub loop-index-preserved : goal.loop-index-preserved
loop-index-preserved c =
    let here : slice_get c.args.receipts.now c.loop-index.index ≡ Some c.index-receipts-index.result =
    slice_get_read c.args.receipts.now (length c.args.receipts.now) c.loop-index.index c.index-receipts-index.result refl c.loop-index-test.true
    c.index-receipts-index.is
    in
    subst (λ order. AreNumbered c.args.receipts.now order (c.loop-index.index + 1)) (sym c.in_ok-push.ensures.items)
    (numbered_more c.args.receipts.now c.loop-index.order.items c.loop-index.index c.index-receipts-index.result c.loop-index.invariant here)

pub returns : goal.returns
returns c =
    in_order c.args.receipts.now c.loop-index.order.items c.sort_unstable_by_key.new.self.items c.loop-index.index c.loop-index.invariant
    c.loop-index-test.false c.sort_unstable_by_key.ensures.permutation
    (IsNonDecreasingBy-from_sort_by_key (λ numbered. numbered.at) c.sort_unstable_by_key.new.self.items c.sort_unstable_by_key.ensures.sorted
    (λ a r f called. search rules))
