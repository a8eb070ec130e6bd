use Rattle.std.proofs.Common.{◌≡◌, ◌∙◌, ap, subst}
use Rattle.vol_volume.specs.Journal.{after}
use Rattle.vol_receipts.specs.Agrees.{start}
use Rattle.vol_views.specs.History.{Reached}
use Rattle.vol_views.specs.States.{state_of}
use Rattle.vol_views.specs.Logs.{history_of, origin_in}
use Rattle.vol_views.proofs.publisher.Publisher.check.Goals as goal

pub returns : goal.returns
returns c =
    let right = c.self.invariant.2 in
    let same = c.self.invariant.1 ∙ c.self.view_is in
    record {
      begun = λ e. right.begun (ap (λ (r : Reached). r.log) same ∙ e);
      reads = subst (λ (r : Reached). state_of r.log ≡ after (start (origin_in r.log)) (history_of r.log)) same right.reads;
    }
