use Rattle.std.proofs.Common.{arith}
use Rattle.count_table.proofs.Steps.{splits}
use Rattle.count_table.proofs.words.Tally.split.Goals as goal

pub split_seat-requires : goal.split_seat-requires
split_seat-requires c =
    let wide = c.args.self.now.wide in
    let v = c.args.seat.now.me.0 in
    let id = c.args.seat.now.id in
    let shape = c.args.self.now.table.shared.key in
    (c.requires.own.0, omega arith, λ s kept at. splits shape s kept id v at c.requires.parts c.requires.draws c.requires.marks)
