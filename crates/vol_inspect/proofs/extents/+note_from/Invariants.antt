use Rattle.std.proofs.Common.{◌-◌, ◌∷◌}
use Rattle.vol_inspect.specs.Extents.{Collects, single}
use Rattle.vol_inspect.proofs.Gatherings.{entries_before}
use Rattle.vol_inspect.proofs.extents.+note_from.Given as goal

-- each call is for a smaller level
abbrev pub decreases-note_from : goal.decreases-note_from
decreases-note_from l = l.level

-- Invariant: the block and the blocks of its entries before `j` are collected.
abbrev pub invariant-loop-j : goal.invariant-loop-j
invariant-loop-j l = Collects l.fn.gathering l.gathering (single l.geometry l.level l.logical l.b ∷ entries_before l.geometry l.image (l.level - 1) l.logical l.b l.j)
