use Rattle.std.proofs.Common.{rules}
use Rattle.command_changes.specs.Mknod.{mknod_calls}
use Rattle.command_changes.proofs.mknod.mknod.Goals as goal

pub returns-in_err-volume-clause-fault : goal.returns-in_err-volume-clause-fault
returns-in_err-volume-clause-fault c =
    search (rules, c.in_err-volume.ensures.fault (mknod_calls c.args.now c.args.device c.args.change c.args.owner c.args.path.now))
