use Rattle.vol_receipts.proofs.FoundReceipts.{AreNumbered}
use Rattle.vol_receipts.proofs.confirm_many.by_number.Given as goal

abbrev pub invariant-loop-index : goal.invariant-loop-index
invariant-loop-index l = AreNumbered l.receipts l.order.items l.index
