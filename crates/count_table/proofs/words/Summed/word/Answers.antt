use Rattle.std.specs.Slots.{slots_items}
use Rattle.count_table.proofs.Totals.{read_at}
use Rattle.count_table.proofs.words.Summed.word.Goals as goal

pub returns : goal.returns
returns c = read_at (slots_items c.args.self.now.closed.words) c.args.i c.word.result c.word.ensures
