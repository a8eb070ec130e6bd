use Rattle.command_reads.proofs.Printed.{string_sight}
use Rattle.command_reads.proofs.bad_uses.whole_map.Goals as goal

pub returns : goal.returns
returns c = string_sight _ _ _ _ c.map_text.ensures.text c.map_text.ensures.fault c.plain_string.ensures
