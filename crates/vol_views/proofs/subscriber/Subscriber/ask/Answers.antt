use Rattle.vol_views.proofs.PublishedSteps.{enters}
use Rattle.vol_views.proofs.subscriber.Subscriber.ask.Goals as goal

pub enter_as-requires : goal.enter_as-requires
enter_as-requires c p = enters _ _ p
