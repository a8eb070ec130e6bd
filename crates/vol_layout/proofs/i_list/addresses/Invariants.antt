use Rattle.std.proofs.Common.{◌≡◌, ℕ, ◌<◌, ◌≤◌, get_or, length}
use Rattle.vol_layout.specs.Edition.{constants}
use Rattle.vol_layout.specs.Inode.{address_at}
use Rattle.vol_layout.specs.declared.edition.Edition.TheVariants.{V6}
use Rattle.vol_layout.proofs.i_list.addresses.Given as goal

-- Invariant: the addresses below `k` have been read, and each is within the edition's limit; in the sixth edition the last five are 0.
abbrev pub invariant-loop-k : goal.invariant-loop-k
invariant-loop-k l = record {
  len : length l.all ≡ 13;
  read : (j : ℕ) → j < l.k → get_or l.all j 0 ≡ address_at l.edition l.image l.at j;
  bound : (j : ℕ) → get_or l.all j 0 < (constants l.edition).number_limit;
  none : l.edition ≡ V6 → (j : ℕ) → 8 ≤ j → get_or l.all j 0 ≡ 0;
}
