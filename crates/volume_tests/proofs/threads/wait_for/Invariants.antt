use Rattle.std.proofs.Common.{◌≡◌}
use Rattle.volume_tests.proofs.threads.wait_for.Given as goal

abbrev pub invariant-loop : goal.invariant-loop
invariant-loop g l = l.session.of ≡ l.fn.session.of
