use Rattle.std.proofs.Common.{refl, subst, rules, None, Some, List, ℕ, ◌∷◌, []}
use Rattle.std.specs.Bool.{OnTrue}
use Rattle.vol_serve.specs.Messages.{Grows}
use Rattle.vol_serve.proofs.MessageLaws.{grows_by_none}
use Rattle.vol_mounted.proofs.TurnLaws.{sent_or_not}
use Rattle.vol_mounted.proofs.service.take_turn.Goals as goal

pub returns-then-not-answer : goal.returns-then-not-answer
returns-then-not-answer g c = (
  record { request = c.args.request.now; now = c.seconds-now.result; reply = None; images = c.if-not-answer.ensures.0 },
  refl,
  record { answered = c.answer.new.self; answers = c.if-not-answer.ensures.2; cut = c.cut_if_heavy.ensures },
  c.if-not-answer.ensures.1,
  grows_by_none (g.P.Replies.sent c.args.replies.now),
)

pub returns : goal.returns
returns g c = (
  record { request = c.args.request.now; now = c.seconds-now.result; reply = Some c.answer.new.room.reply; images = c.if-not-answer.ensures.0 },
  refl,
  record { answered = c.answer.new.self; answers = c.if-not-answer.ensures.2; cut = c.cut_if_heavy-2.ensures },
  c.if-not-answer.ensures.1,
  sent_or_not _ _ _ _ c.send.result
      (subst (λ (reply : List ℕ). OnTrue c.send.result (Grows (g.P.Replies.sent c.args.replies.now) (g.P.Replies.sent c.send.new.self) (reply ∷ [])))
      c.as_slice.ensures c.send.ensures.sent)
      c.send.ensures.kept (search rules) c.send.ensures.failed,
)
