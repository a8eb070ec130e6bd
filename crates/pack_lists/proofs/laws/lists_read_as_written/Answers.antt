use Rattle.pack_lists.proofs.ReadAsWritten.{read_as_written}
use Rattle.pack_lists.proofs.laws.lists_read_as_written.Goals as goal

pub returns : goal.returns
returns c = read_as_written
