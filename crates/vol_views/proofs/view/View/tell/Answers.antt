use Rattle.std.proofs.Common.{sym, ap, subst, List, All}
use Rattle.vol_views.specs.declared.history.LogEntry.{LogEntry}
use Rattle.vol_receipts.specs.declared.receipts.Receipt.{Receipt}
use Rattle.vol_views.specs.Views.{Watched, AgreesIn}
use Rattle.vol_views.proofs.Views.{agrees_here, all_agree_more}
use Rattle.vol_views.proofs.view.View.tell.Goals as goal

pub invariant_of-self : goal.invariant_of-self
invariant_of-self c =
    let receipt : Receipt = record { at = c.args.at; asked = c.args.asked; outcome = c.args.outcome } in
    let same = ap (λ (w : Watched). w.log) c.self.view_is in
    let agrees = subst (λ (l : List LogEntry). AgreesIn l receipt) (sym same)
    (agrees_here c.args.self.now.log c.args.at c.args.asked c.args.outcome c.requires.at c.requires.answer) in (
      c.self.invariant.0,
      c.self.invariant.1,
      subst (All (AgreesIn c.self.inside.known.log)) (sym c.longer.ensures)
          (all_agree_more c.self.inside.known.log c.self.inside.notes.log receipt c.self.invariant.2 agrees),
    )

pub returns-clause-agrees : goal.returns-clause-agrees
returns-clause-agrees c = agrees_here c.args.self.now.log c.args.at c.args.asked c.args.outcome c.requires.at c.requires.answer
