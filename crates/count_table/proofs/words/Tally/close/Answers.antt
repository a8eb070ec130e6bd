use Rattle.std.proofs.Common.{subst}
use Rattle.count_table.specs.Rule.{IsSummed}
use Rattle.count_table.proofs.Steps.{sums}
use Rattle.count_table.proofs.words.Tally.close.Goals as goal

pub returns : goal.returns
returns c =
    let values = c.close_with.ensures.values in
    let last = values.2 in
    let s = last.0 in
    let seen = last.1 in
    let shape = c.args.self.table.shared.key in
    subst (IsSummed shape c.args.seat.me.0) last.2
    (sums shape s seen.0 c.args.seat.id c.args.seat.me.0 seen.1 c.requires.whole)
