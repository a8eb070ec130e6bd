use Rattle.command_reads.proofs.map.untitled.Goals as goal

pub returns : goal.returns
returns c = rw (c.deref.ensures.value, c.new-titles.ensures.items, c.blocks_for-each.ensures.value) at c.svg.ensures
