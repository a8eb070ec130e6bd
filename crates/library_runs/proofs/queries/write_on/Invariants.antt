use Rattle.std.proofs.Common.{◌≡◌}
use Rattle.library_runs.proofs.queries.write_on.Given as goal

abbrev pub invariant-loop : goal.invariant-loop
invariant-loop g l = record {
  next : (goal.iterator-loop g).can_next l.iterator';
  ends : (goal.iterator-loop g).is_finite l.iterator';
  own : l.session.of ≡ l.fn.session.of;
}
