use Rattle.std.proofs.Common.{◌≡◌, Some}
use Rattle.library_runs.proofs.queries.ask_view.Given as goal

abbrev pub invariant-loop : goal.invariant-loop
invariant-loop l = l.fn.shared.of.book ≡ Some l.view.book
