use Rattle.vol_volume.proofs.AcceptedCalls.{refused_full, answer_refuses}
use Rattle.vol_volume.proofs.volume.Volume.call.Goals as goal

pub returns-then-is_err-clause-refused : goal.returns-then-is_err-clause-refused
returns-then-is_err-clause-refused c =
    rw (← c.self.view_is)
    (refused_full c.self.inside.parts.geometry c.self.inside.parts.current c.args.call c.refusal_without_room-refusal.result c.self.invariant.0
    c.refusal_without_room-refusal.ensures)

pub returns-clause-refused : goal.returns-clause-refused
returns-clause-refused c =
    rw (← c.self.view_is)
    (answer_refuses c.self.inside.parts.geometry c.self.inside.parts.current c.args.call c.self.invariant.0 c.accept.result c.accept.ensures.refused)
