use Rattle.std.proofs.Common.{refl, sym, Ok, Err, []}
use Rattle.vol_serve.proofs.MessageLaws.{grows_by_none}
use Rattle.vol_mounted.proofs.TurnLaws.{unanswered, replied}
use Rattle.vol_mounted.proofs.server.MountedServer.answer_request.Goals as goal

pub returns-then-not-wants_reply : goal.returns-then-not-wants_reply
returns-then-not-wants_reply g c = ([], grows_by_none _, unanswered _ _ c.args.request (sym c.if-not-wants_reply.ensures))

pub returns-in-Ok : goal.returns-in-Ok
returns-in-Ok g c = (
  c.in-Ok.ensures.0,
  c.in-Ok.ensures.1,
  replied _ _ _ c.args.request (Ok c.answer_operation.new.room.reply) _ _ (sym c.if-not-wants_reply.ensures) refl c.in-Ok.ensures.2,
)

pub returns-in-Err : goal.returns-in-Err
returns-in-Err g c = (
  c.in-Err.ensures.0,
  c.in-Err.ensures.1,
  replied _ _ _ c.args.request (Err c.in-Err.refusal) _ _ (sym c.if-not-wants_reply.ensures) c.refuse.ensures c.in-Err.ensures.2,
)
