use Rattle.vol_file.proofs.TouchedBlocks.{touched_byte, byte_touched}
use Rattle.vol_file.proofs.laws.blocks_are_touched_where_bytes_lie.Goals as goal

pub returns : goal.returns
returns c = λ offset len b. (touched_byte offset len b, λ (n, from, below, here). byte_touched offset len b n from below here)
