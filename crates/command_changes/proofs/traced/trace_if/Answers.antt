use Rattle.std.proofs.Common.{refl}
use Rattle.command_changes.proofs.traced.trace_if.Goals as goal

-- src/traced.rt:44:1
pub returns-in_ok-trace_of : goal.returns-in_ok-trace_of
returns-in_ok-trace_of c = rw c.if-wanted.true (c.in_ok-trace_of.field-0, refl, c.in_ok-trace_of.ensures)
