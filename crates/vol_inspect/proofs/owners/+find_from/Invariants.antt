use Rattle.std.proofs.Common.{◌≡◌, ◌-◌, ℕ, None}
use Rattle.std.specs.List.{find}
use Rattle.vol_inspect.specs.Owners.{AreDead, is_block}
use Rattle.vol_inspect.proofs.Gatherings.{entries_before}
use Rattle.vol_inspect.proofs.owners.+find_from.Given as goal

-- each call is for a smaller level
abbrev pub decreases-find_from : goal.decreases-find_from
decreases-find_from l = l.level

-- Invariant: the entries before `j` don't lead to the block.
abbrev pub invariant-loop-j : goal.invariant-loop-j
invariant-loop-j l = record {
  dead : AreDead l.geometry l.image l.b l.dead;
  none : (first : ℕ) → find (is_block l.b) (entries_before l.geometry l.image (l.level - 1) first l.m l.j) ≡ None;
}
