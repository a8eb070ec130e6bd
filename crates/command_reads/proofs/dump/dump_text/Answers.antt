use Rattle.std.proofs.Common.{inl, sym}
use Rattle.command_reads.proofs.dump.dump_text.Goals as goal

pub returns-in-Err-clause-fault : goal.returns-in-Err-clause-fault
returns-in-Err-clause-fault c = inl (c.in-Err.fault, sym c.in-Err.ensures.exact, c.unmeasured.ensures)
