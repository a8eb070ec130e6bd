use Rattle.std.proofs.Common.{rules}
use Rattle.command_changes.specs.Mkdir.{mkdir_calls}
use Rattle.command_changes.proofs.mkdir.mkdir.Goals as goal

pub returns-in_err-volume-clause-fault : goal.returns-in_err-volume-clause-fault
returns-in_err-volume-clause-fault c =
    search (rules, c.in_err-volume.ensures.fault (mkdir_calls c.args.now c.args.owner c.args.path.now))
