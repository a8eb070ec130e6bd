use Rattle.std.proofs.Common.{◌≡◌}
use Rattle.vol_identify.specs.Packs.{found_of, through}
use Rattle.vol_identify.proofs.pack_scan.look_through.Given as goal

-- Invariant: the first `k` blocks were looked at.
abbrev pub invariant-loop-k : goal.invariant-loop-k
invariant-loop-k l = found_of l.found ≡ through l.blocks l.at l.window l.k (found_of l.fn.found)
