use Rattle.std.proofs.Common.{ap, subst, List}
use Rattle.vol_views.specs.History.{Reached}
use Rattle.vol_views.specs.declared.history.LogEntry.{LogEntry}
use Rattle.vol_views.specs.Views.{GoesOn}
use Rattle.vol_views.proofs.Views.{goes_on_beginning}
use Rattle.vol_views.proofs.log_prefix.LogPrefix.is_covered.Goals as goal

pub returns-clause-covered : goal.returns-clause-covered
returns-clause-covered c =
    subst (λ (l : List LogEntry). GoesOn l c.args.publisher.now.log) (ap (λ (r : Reached). r.log) c.self.view_is)
    (goes_on_beginning c.self.inside.prefix.log c.args.publisher.now.log c.self.invariant.1 c.covers.ensures.covers)
