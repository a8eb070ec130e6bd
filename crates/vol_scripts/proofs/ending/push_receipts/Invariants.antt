use Rattle.std.proofs.Common.{◌≡◌, ◌++◌}
use Rattle.vol_scripts.specs.Endings.{receipts_in}
use Rattle.vol_scripts.proofs.ending.push_receipts.Given as goal

-- Invariant: the receipts so far, followed by the receipts of the remaining steps, are the receipts of all steps.
abbrev pub invariant-steps : goal.invariant-steps
invariant-steps l = l.receipts.items ++ receipts_in l.came-iterator.rest.items ≡ l.fn.receipts.items ++ receipts_in l.fn.played.items
