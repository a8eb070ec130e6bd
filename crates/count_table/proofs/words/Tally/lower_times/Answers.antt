use Rattle.std.proofs.Common.{◌<◌, refl, sym, subst}
use Rattle.atomic_table.specs.Table.{keeps}
use Rattle.count_table.specs.Views.{lowered_view}
use Rattle.count_table.proofs.Steps.{lowers_times}
use Rattle.count_table.proofs.words.Tally.lower_times.Goals as goal

pub fetch_min-found-requires : goal.fetch_min-found-requires
fetch_min-found-requires c =
    let v = c.args.seat.now.me.0 in
    let id = c.args.seat.now.id in
    let shape = c.args.self.now.table.shared.key in (
      c.requires.own.0,
      subst (λ n. c.args.word < n) (sym c.args.self.now.wide) c.requires.last,
      λ s kept long at fits. (
        lowered_view v c.args.word c.args.value,
        keeps,
        tt,
        lowers_times shape s kept id v at c.args.word c.args.value c.requires.parts c.requires.times c.requires.first c.requires.last,
        refl,
      ),
    )
