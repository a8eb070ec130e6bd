use Rattle.std.proofs.Common.{◌≡◌, ℕ, ◌+◌, ◌-◌, ◌*◌, ◌<◌, get_or}
use Rattle.vol_mkfs.specs.Blank.{volume_byte}
use Rattle.vol_mkfs.proofs.blank.blocks.gather.Given as goal

-- Invariant: the buffer has the blocks before block b.
abbrev pub invariant-loop-b : goal.invariant-loop-b
invariant-loop-b l = (k : ℕ) → k < 512 * (l.b - l.from) → get_or l.buffer k 0 ≡ volume_byte l.geometry l.first (512 * l.from + k)
