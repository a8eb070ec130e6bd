use Rattle.std.proofs.Common.{subst}
use Rattle.std.specs.Prelude.{slice_index_or}
use Rattle.vol_play.specs.Players.{HasPlayed}
use Rattle.vol_play.proofs.ListLaws.{pairs_at}
use Rattle.vol_play.proofs.run.run_all.Goals as goal
use Rattle.vol_play.specs.declared.prepare.Player.{Player}

pub returns : goal.returns
returns g c =
    pairs_at HasPlayed c.args.players.now c.for_each_mut.new.s c.for_each_mut.auto.s
    (λ k d lt.
    let at = (c.for_each_mut.ensures k d lt).1 in
    subst (λ (new : Player). HasPlayed (slice_index_or c.args.players.now k d) new) at.left
    (subst (λ (old : Player). HasPlayed old at.after_call.now) at.argument_is at.call))
