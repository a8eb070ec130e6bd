use Rattle.std.proofs.Common.{◌≡◌, ◌≤◌, ◌+◌, ◌*◌, [], ◌++◌, length, vec_len, All, false}
use Rattle.std.specs.List.{flat_map}
use Rattle.vol_shared.proofs.close.gather.Given as goal

abbrev pub invariant-loop-session : goal.invariant-loop-session
invariant-loop-session l = record {
  own : l.place.table_id ≡ l.lock.table_id;
  free : l.place.me.1 ≡ [];
  idle : l.place.me.0.holds ≡ false;
  some_sessions : 1 ≤ l.place.me.0.parts;
  parts : l.place.me.0.parts + length l.sessions.items ≡ length l.fn.sessions.items;
  places : flat_map (λ s. s.places) l.sessions.items ++ l.place.me.0.places ≡ flat_map (λ s. s.places) l.fn.sessions.items;
  cuts : flat_map (λ s. s.cuts) l.sessions.items ++ l.place.me.0.cuts ≡ flat_map (λ s. s.cuts) l.fn.sessions.items;
  receipts : flat_map (λ s. s.receipts) l.sessions.items ++ l.place.me.0.receipts ≡ flat_map (λ s. s.receipts) l.fn.sessions.items;
  count : l.total ≡ length l.place.me.0.places;
  small : l.total ≤ l.place.me.0.parts * 18446744073709551616;
  others : All (λ s. s.of.table ≡ l.lock.table_id) l.sessions.items;
}

abbrev pub decreases-loop-session : goal.decreases-loop-session
decreases-loop-session l = vec_len l.sessions
