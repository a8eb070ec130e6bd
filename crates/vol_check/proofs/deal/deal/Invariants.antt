use Rattle.std.proofs.Common.{◌≡◌, ◌+◌, [], All, vec_len}
use Rattle.count_table.specs.Tallies.{IsSeatAt}
use Rattle.vol_check.specs.Seats.{IsFresh}
use Rattle.vol_check.proofs.deal.deal.Given as goal

-- Invariant: the first seat holds the parts that are not split off yet.
abbrev pub invariant-loop-k : goal.invariant-loop-k
invariant-loop-k l = record {
  own : IsSeatAt l.tally l.first;
  parts : l.first.me.0.parts + l._k ≡ l.count + 1;
  draws : l.first.me.0.draws ≡ [];
  marks : l.first.me.0.marks ≡ [];
  times : l.first.me.0.times ≡ 1;
  fresh : All (IsFresh l.tally) l.seats.items;
  len : vec_len l.seats + 1 ≡ l._k;
}
