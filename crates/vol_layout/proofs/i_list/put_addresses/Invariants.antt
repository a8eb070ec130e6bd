use Rattle.std.proofs.Common.{◌≡◌, ℕ, ◌+◌, ◌*◌, ◌<◌, get_or}
use Rattle.pdp_words.specs.Words.{SameOutside}
use Rattle.vol_layout.specs.Inode.{address_at, address_offset, address_bytes}
use Rattle.vol_layout.proofs.i_list.put_addresses.Given as goal

-- Invariant: the addresses below `k` have been written, and no byte outside them has changed.
abbrev pub invariant-loop-k : goal.invariant-loop-k
invariant-loop-k l =
    ((j : ℕ) → j < l.k → address_at l.edition l.image l.at j ≡ get_or l.addresses j 0)
    × SameOutside l.initial.image l.image (l.at + address_offset l.edition)
    (l.at + address_offset l.edition + address_bytes l.edition * l.k)
