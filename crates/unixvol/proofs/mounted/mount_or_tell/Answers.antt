-- The line that reports why an image can't be mounted.
use Rattle.std.proofs.Common.{[]}
use Rattle.unixvol.proofs.mounted.mount_or_tell.Goals as goal

pub returns-in-Err : goal.returns-in-Err
returns-in-Err g c = (c.in-Err.fault, c.in-Err.ensures.fault [], c.status-status.ensures, c.tell_fault.ensures)
