use Rattle.command_reads.proofs.BadLooks.{told_unrescued}
use Rattle.command_reads.proofs.bad_images.rescue_from.Goals as goal

pub returns-in-Err-clause-fault : goal.returns-in-Err-clause-fault
returns-in-Err-clause-fault c = λ known failed.
    told_unrescued c.args.edition c.args.ranges.now c.args.at c.args.sizes c.args.bytes.items known failed c.in-Err.fault c.unrescued.result.status
    c.unrescued.result.fault c.in-Err.ensures.fault c.unrescued.ensures
