use Rattle.std.proofs.Common.{◌≡◌, map}
use Rattle.std.specs.List.{range_with_len}
use Rattle.vol_inspect.specs.Cells.{cell_of, piece}
use Rattle.vol_inspect.proofs.cell_groups.cells.Given as goal

-- Invariant: the cells before `k` have been added.
abbrev pub invariant-loop-k : goal.invariant-loop-k
invariant-loop-k l = l.found.items ≡ map (λ k. cell_of (piece l.each l.blocks k)) (range_with_len 0 l.k)
