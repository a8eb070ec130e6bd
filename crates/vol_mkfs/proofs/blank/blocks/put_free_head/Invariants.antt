use Rattle.std.proofs.Common.{◌≡◌, ℕ, ◌+◌, ◌<◌, get_or}
use Rattle.pdp_words.specs.Words.{word, SameOutside}
use Rattle.vol_layout.specs.Edition.{number}
use Rattle.vol_mkfs.specs.Blank.{listed}
use Rattle.vol_mkfs.proofs.blank.blocks.put_free_head.Given as goal

-- Invariant: the count and the entries before entry j are written, and no other bytes have changed.
abbrev pub invariant-loop-j : goal.invariant-loop-j
invariant-loop-j l = record {
  count : word l.bytes l.at ≡ l.count;
  numbers : (i : ℕ) → i < l.j → number l.geometry.edition l.bytes (l.at + 2) i ≡ listed l.geometry l.top l.count i;
  small : (k : ℕ) → get_or l.bytes k 0 < 256;
  others : SameOutside l.fn.bytes l.bytes l.at (l.at + 202);
}
