use Rattle.std.proofs.Common.{slice_index, refl, arith}
use Rattle.atomic_table.specs.Table.{keeps}
use Rattle.count_table.specs.Views.{drew}
use Rattle.count_table.proofs.Steps.{claims, draws_few}
use Rattle.count_table.proofs.words.Tally.claim.Goals as goal

pub fetch_add-requires : goal.fetch_add-requires
fetch_add-requires c =
    let wide = c.args.self.now.wide in
    let v = c.args.seat.now.me.0 in
    let id = c.args.seat.now.id in
    let shape = c.args.self.now.table.shared.key in
    (c.requires.own.0, omega arith, λ s kept long at fits. (drew v (slice_index s.words 0), keeps, tt, claims shape s kept id v at c.requires.early, (refl, draws_few shape s kept id v at)))
