use Rattle.std.proofs.Common.{◌≡◌, ◌++◌}
use Rattle.vol_scripts.specs.Endings.{all_receipts}
use Rattle.vol_scripts.proofs.ending.receipts_of.Given as goal

-- Invariant: the receipts so far, followed by the receipts of the remaining scripts, are the receipts of all scripts.
abbrev pub invariant-scripts : goal.invariant-scripts
invariant-scripts l = l.receipts.items ++ all_receipts l.played-iterator.rest.items ≡ all_receipts l.fn.scripts.items
