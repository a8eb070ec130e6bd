use Rattle.std.proofs.Common.{◌≡◌, ℕ, ◌+◌, ◌-◌, ◌*◌, ◌<◌, ◌≤◌, vec_len, slice_index}
use Rattle.vol_check.specs.Parts.{parts_before}
use Rattle.vol_check.proofs.parts.part_starts.Given as goal

-- Invariant: the pieces of the i-numbers before `i` are counted.
abbrev pub invariant-loop-i : goal.invariant-loop-i
invariant-loop-i l = record {
  wide : vec_len l.starts ≡ l.geometry.last_inode + 1;
  sum : l.before ≡ parts_before l.geometry l.image (l.i - 1);
  few : l.before ≤ 33027 * (l.i - 1);
  done : (n : ℕ) → n < l.i → slice_index l.starts.items n ≡ parts_before l.geometry l.image n;
}
