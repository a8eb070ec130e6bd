use Rattle.std.proofs.Common.{ℕ, ◌-◌, ◌<◌, ◌≤◌, length, get_or}
use Rattle.vol_receipts.specs.Agrees.{origin_of}
use Rattle.vol_receipts.specs.Replay.{HasAtMost}
use Rattle.vol_receipts.proofs.FoundReceipts.{AreFoundUpTo}
use Rattle.vol_receipts.specs.declared.confirm_many.Numbered.{Numbered}
use Rattle.vol_receipts.proofs.confirm_many.find_in_order.Given as goal

abbrev pub invariant-loop-numbered : goal.invariant-loop-numbered
invariant-loop-numbered l = record {
  found : AreFoundUpTo (origin_of l.volume) l.volume.journal l.receipts l.order l.findings.items l.numbered-index;
  behind : (j : ℕ) (d : Numbered) → l.numbered-index ≤ j → j < length l.order → HasAtMost l.volume l.again ((get_or l.order j d).at - l.volume.first);
}
