use Rattle.command_reads.proofs.KnownOwners.{owned}
use Rattle.command_reads.proofs.bad_owners.measured_block.Goals as goal

pub returns-in-Ok : goal.returns-in-Ok
returns-in-Ok c =
    owned c.args.edition c.args.image.now c.args.lost.now c.args.block c.args.form c.args.geometry.now c.in-Ok.owners _ c.owned_block.result c.requires.read
    c.in-Ok.ensures c.deref.ensures.value c.owned_block.ensures.shown c.owned_block.ensures.fault

pub returns-in-Err : goal.returns-in-Err
returns-in-Err c = (c.in-Err.fault, c.in-Err.ensures, c.uninspected.ensures)
