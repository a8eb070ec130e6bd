use Rattle.vol_inspect.specs.Extents.{Collects}
use Rattle.vol_inspect.proofs.Gatherings.{addresses_before}
use Rattle.vol_inspect.proofs.extents.note_inode.Given as goal

-- Invariant: the blocks of the addresses before `k` are collected.
abbrev pub invariant-loop-k : goal.invariant-loop-k
invariant-loop-k l = Collects l.fn.gathering l.gathering (addresses_before l.geometry l.image l.i l.k)
