use Rattle.std.proofs.Common.{◌≡◌, ◌+◌, ◌-◌, [], length, vec_capacity, All}
use Rattle.vol_shared.specs.Plays.{fresh}
use Rattle.vol_shared.specs.Sessions.{new_session}
use Rattle.vol_shared.proofs.board.deal.Given as goal

abbrev pub invariant-loop-i : goal.invariant-loop-i
invariant-loop-i l = record {
  own : l.place.table_id ≡ l.lock.table_id;
  place : l.place.me ≡ (fresh (l.sessions + 1 - l._i) l.lock.key.stock, []);
  count : length l.all.items + 1 ≡ l._i;
  room : vec_capacity l.all ≡ l.sessions;
  fresh : All (λ s. s ≡ new_session (record { table = l.lock.table_id; book = l.lock.key.stock.book }) l.records) l.all.items;
}
