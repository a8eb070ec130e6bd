use Rattle.std.proofs.Common.{arith}
use Rattle.count_table.proofs.Steps.{joins}
use Rattle.count_table.proofs.words.Tally.join.Goals as goal

pub join_seat-requires : goal.join_seat-requires
join_seat-requires c =
    let wide = c.args.self.now.wide in
    let v = c.args.seat.now.me.0 in
    let id = c.args.seat.now.id in
    let shape = c.args.self.now.table.shared.key in
    (c.requires.own.0.0, c.requires.own.1.0, c.requires.own.1.1, omega arith, λ s kept at apart there. joins shape s kept id v at c.args.other.id c.args.other.me.0 apart there)
