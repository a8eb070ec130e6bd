use Rattle.std.proofs.Common.{inl}
use Rattle.vol_mounted.proofs.Answered.{answered_by}
use Rattle.vol_mounted.proofs.server.MountedServer.operate.Goals as goal

pub returns-in-Ok-clause-answered : goal.returns-in-Ok-clause-answered
returns-in-Ok-clause-answered c =
    answered_by c.args.self.now c.change.new.self c.args.now c.args.header.now c.args.operation.now c.put_reply.result c.put_reply.new.room.reply
    c.in-Ok.ensures.made c.put_reply.ensures

pub returns-in-Err-clause-answered : goal.returns-in-Err-clause-answered
returns-in-Err-clause-answered c = inl c.in-Err.ensures.unmade
