use Rattle.std.proofs.Common.{◌≡◌}
use Rattle.vol_shared.proofs.lock.take.Given as goal

abbrev pub invariant-loop : goal.invariant-loop
invariant-loop g l = record {
  next : (goal.iterator-loop g).can_next l.iterator';
  ends : (goal.iterator-loop g).is_finite l.iterator';
  own : l.place.table_id ≡ l.fn.place.table_id;
  me : l.place.me ≡ l.fn.place.me;
}
