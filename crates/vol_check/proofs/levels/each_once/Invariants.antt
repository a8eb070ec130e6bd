use Rattle.std.proofs.Common.{◌≡◌, ℕ, ◌+◌, All, vec_len}
use Rattle.std.specs.List.{sum_by}
use Rattle.vol_layout.specs.declared.geometry.Geometry.{Geometry}
use Rattle.vol_check.specs.Levels.{IsNamed, by_times}
use Rattle.vol_check.proofs.levels.each_once.Given as goal

-- Invariant: the positions of the blocks are those of the blocks left plus those collected.
abbrev pub invariant-loop-n : goal.invariant-loop-n
invariant-loop-n l = record {
  named : (g : Geometry) → All (IsNamed g) l.fn.named.items → All (IsNamed g) l.named.items × All (IsNamed g) l.once.items;
  same : (f : ℕ → ℕ) → sum_by (by_times f) l.named.items + sum_by (by_times f) l.once.items ≡ sum_by (by_times f) l.fn.named.items;
}

abbrev pub decreases-loop-n : goal.decreases-loop-n
decreases-loop-n l = vec_len l.named
