use Rattle.std.proofs.Common.{◌≡◌}
use Rattle.library_runs.proofs.queries.call_session.Given as goal

abbrev pub invariant-loop : goal.invariant-loop
invariant-loop g l = l.session.of ≡ l.fn.session.of
