use Rattle.std.proofs.Common.{sym}
use Rattle.vol_inspect.specs.declared.fault.InspectFault.TheVariants as inspects
use Rattle.command_reads.proofs.bad_owners.known_block.Goals as goal

pub returns-in-Err : goal.returns-in-Err
returns-in-Err c = (inspects.Unsound c.in-Err.fault, sym c.in-Err.ensures.exact, c.unmeasured.ensures)
