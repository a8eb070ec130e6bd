use Rattle.std.proofs.Common.{refl, arith}
use Rattle.atomic_table.specs.Table.{keeps}
use Rattle.count_table.specs.Views.{counted_view}
use Rattle.count_table.proofs.Steps.{counts_times}
use Rattle.count_table.proofs.words.Tally.count_times.Goals as goal

pub fetch_add-found-requires : goal.fetch_add-found-requires
fetch_add-found-requires c =
    let wide = c.args.self.now.wide in
    let v = c.args.seat.now.me.0 in
    let id = c.args.seat.now.id in
    let shape = c.args.self.now.table.shared.key in
    let last = c.requires.last in (
      c.requires.own.0,
      omega arith,
      λ s kept long at fits. (
        counted_view v c.args.word c.args.times,
        keeps,
        tt,
        counts_times shape s kept id v at c.args.word c.args.times c.requires.parts c.requires.first c.requires.last,
        refl,
      ),
    )
