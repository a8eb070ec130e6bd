use Rattle.std.proofs.Common.{◌≡◌, ◌-◌, ◌^◌, ◌<◌, drop}
use Rattle.vol_dir.specs.NameKeys.{digits, key_of}
use Rattle.vol_dir.proofs.listing.key_from.Given as goal

-- Invariant: the digits before `k` are in `key`, and the others would make it the number of the name.
abbrev pub invariant-loop-k : goal.invariant-loop-k
invariant-loop-k l = record {
  digits : digits l.key (14 - l.k) (drop l.k l.name) ≡ key_of l.name;
  low : l.key < 256 ^ l.k;
}
