use Rattle.std.proofs.Common.{ℕ, ◌+◌, ◌-◌, ◌≤◌, List, length}
use Rattle.vol_file.specs.Rules.{Rules3To7With}
use Rattle.vol_file.specs.Steps.{Rewrites, text_at}
use Rattle.vol_file.proofs.pieces.put_text.Given as goal

-- Invariant: the first `done` bytes have been written.
abbrev pub invariant-loop-done : goal.invariant-loop-done
invariant-loop-done l = record {
  within : l.done ≤ length l.text;
  written : (blocks : List ℕ) → Rules3To7With l.geometry l.initial.image blocks
      → Rewrites l.geometry l.initial.image l.image l.i l.offset (l.offset + l.done) (text_at l.offset l.text) blocks;
}

abbrev pub decreases-loop-done : goal.decreases-loop-done
decreases-loop-done l = length l.text - l.done
