use Rattle.std.proofs.Common.{◌≡◌, ℕ, ◌<◌, ◌≤◌, true, false, get_or}
use Rattle.vol_judge.proofs.lost.find_lost.Given as goal

-- Invariant: each data block before b is used or free.
abbrev pub invariant-loop-b : goal.invariant-loop-b
invariant-loop-b l = (k : ℕ) → l.geometry.zone_start ≤ k → k < l.b → get_or l.named k 0 ≡ 0 → get_or l.free k false ≡ true
