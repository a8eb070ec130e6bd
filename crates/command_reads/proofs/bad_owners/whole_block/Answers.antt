use Rattle.command_reads.proofs.Printed.{string_sight}
use Rattle.command_reads.proofs.bad_owners.whole_block.Goals as goal

pub returns : goal.returns
returns c = string_sight _ _ _ _ c.block_text.ensures.text c.block_text.ensures.fault c.plain_string.ensures
