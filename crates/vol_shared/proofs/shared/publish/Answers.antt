use Rattle.std.proofs.Common.{◌∙◌, ap, Some}
use Rattle.vol_views.specs.History.{Reached}
use Rattle.vol_shared.specs.Stored.{Stored, unpublished}
use Rattle.vol_shared.proofs.Prefixes.{all_new}
use Rattle.vol_shared.proofs.shared.publish.Goals as goal

pub returns-in-Ok-watch-clause-new_views : goal.returns-in-Ok-watch-clause-new_views
returns-in-Ok-watch-clause-new_views g c =
    all_new c.args.volume c.with_publisher.result c.in-Ok.publisher c.in-Ok-watch.seen.items (ap unpublished c.with_publisher.ensures)
    (ap (λ (s : Stored). s.book) c.with_publisher.ensures ∙ ap (λ (r : Reached). Some r.book) c.in-Ok-watch.ensures.same) c.in-Ok.ensures c.in-Ok-watch.ensures.new
