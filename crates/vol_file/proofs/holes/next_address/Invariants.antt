use Rattle.std.proofs.Common.{◌≡◌, ℕ, ◌<◌, ◌≤◌}
use Rattle.vol_layout.specs.Inode.{address_at, inode_place}
use Rattle.vol_file.proofs.holes.next_address.Given as goal

-- Invariant: the addresses before `k` are 0.
abbrev pub invariant-loop-k : goal.invariant-loop-k
invariant-loop-k l = (n : ℕ) → l.from ≤ n → n < l.k → address_at l.geometry.edition l.image (inode_place l.geometry.edition l.i) n ≡ 0
