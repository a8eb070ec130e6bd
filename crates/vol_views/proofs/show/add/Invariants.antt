use Rattle.std.proofs.Common.{◌≡◌, drop}
use Rattle.vol_views.proofs.show.add.Given as goal

abbrev pub invariant-loop : goal.invariant-loop
invariant-loop g l = record {
  next : (goal.iterator-loop g).can_next l.iterator';
  ends : (goal.iterator-loop g).is_finite l.iterator';
  desk : l.copies.desk ≡ l.fn.copies.desk;
  pending : drop l.copies.behind l.copies.log.items ≡ drop l.fn.copies.behind l.fn.copies.log.items;
  operation : l.operation ≡ l.fn.operation;
}
