use Rattle.vol_check.proofs.Joined.{gathers_first, gathers_more}
use Rattle.vol_check.proofs.gather.gather.Goals as goal

pub loop-other-init : goal.loop-other-init
loop-other-init c =
    gathers_first c.args.tally.now c.args.seats.items c.pop.new.self.items c.in-Some.all c.in-Some.ensures.items c.requires.own c.requires.stopped

pub loop-other-preserved : goal.loop-other-preserved
loop-other-preserved c =
    gathers_more c.args.tally.now c.args.seats.items c.loop-other.seats.items c.pop-in-loop-other.new.self.items c.loop-other.all c.in-Some-pop.other
    c.join.new.all c.in-Some-pop.ensures.items c.loop-other.invariant c.in_ok-join.ensures
