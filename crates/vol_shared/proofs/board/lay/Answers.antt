use Rattle.std.proofs.Common.{[], ◌∷◌, ◌++◌, ◌∙◌, sym, ap, Some}
use Rattle.vol_shared.proofs.Seats.{opens}
use Rattle.vol_shared.specs.Stored.{Stored}
use Rattle.vol_shared.proofs.board.lay.Goals as goal

pub new-requires : goal.new-requires
new-requires c =
    opens (record { stock = c.kept.result; sessions = c.args.sessions }) c.push_reserved.new.self.items
    (c.push_reserved.ensures.items ∙ (ap (λ l. l ++ Some c.args.stock ∷ []) c.in-Ok.ensures.items ∙ ap (λ (x : Stored). Some x ∷ []) (sym c.kept.ensures)))
