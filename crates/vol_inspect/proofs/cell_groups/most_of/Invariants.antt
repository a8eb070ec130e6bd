use Rattle.std.proofs.Common.{◌≡◌, drop}
use Rattle.vol_inspect.specs.Cells.{most_of}
use Rattle.vol_inspect.specs.declared.uses.Use.TheVariants as uses
use Rattle.vol_inspect.proofs.cell_groups.most_of.Given as goal

-- Invariant: the best so far, against the uses that are left, is the best of all.
abbrev pub invariant-loop-one : goal.invariant-loop-one
invariant-loop-one l = most_of l.blocks l.best (drop l.one-index l.rivals) ≡ most_of l.blocks uses.Free l.rivals
