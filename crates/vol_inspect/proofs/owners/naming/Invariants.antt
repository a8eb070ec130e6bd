use Rattle.std.proofs.Common.{◌≡◌, None}
use Rattle.std.specs.List.{find}
use Rattle.vol_inspect.specs.Owners.{AreDead, is_block}
use Rattle.vol_inspect.proofs.Gatherings.{addresses_before}
use Rattle.vol_inspect.proofs.owners.naming.Given as goal

-- Invariant: the addresses before `k` don't lead to the block.
abbrev pub invariant-loop-k : goal.invariant-loop-k
invariant-loop-k l = record {
  dead : AreDead l.geometry l.image l.b l.dead;
  none : find (is_block l.b) (addresses_before l.geometry l.image l.i l.k) ≡ None;
}
