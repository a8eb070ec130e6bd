use Rattle.std.proofs.Common.{◌≡◌, ℕ, ◌+◌, ◌-◌, ◌<◌, get_or, length}
use Rattle.vol_layout.specs.Body.{body_byte}
use Rattle.vol_file.specs.Runs.{LooksUp}
use Rattle.vol_file.proofs.read_bytes.read_whole.Given as goal

-- Invariant: the first `done` bytes have been read.
abbrev pub invariant-loop-done : goal.invariant-loop-done
invariant-loop-done l = record {
  own : LooksUp l.geometry l.image l.i l.numbers;
  read : (n : ℕ) → n < l.done → get_or l.buffer n 0 ≡ body_byte l.geometry l.image l.i (l.offset + n);
}

abbrev pub decreases-loop-done : goal.decreases-loop-done
decreases-loop-done l = length l.initial.buffer - l.done
