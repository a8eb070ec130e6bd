use Rattle.command_reads.proofs.map.scale_text.Goals as goal

pub returns : goal.returns
returns c = rw (c.scale_end-end.ensures) at c.format.ensures.ok
