use Rattle.std.proofs.Common.{◌∙◌, refl, sym, ap, subst, ◌+◌, length-append}
use Rattle.std.proofs.lemmas.List.Elements.{filter_map-append}
use Rattle.vol_serve.specs.Answers.{reply_to}
use Rattle.vol_serve.specs.Messages.{Grows}
use Rattle.vol_serve.proofs.MessageLaws.{grows_more, grows_kept}
use Rattle.vol_serve.proofs.request_loop.run.Goals as goal

pub returns-then-not-answer_one-clause-replies : goal.returns-then-not-answer_one-clause-replies
returns-then-not-answer_one-clause-replies g c = (
  _,
  _,
  grows_more _ _ _ _ _ c.requests.invariant.1 c.in-Some.ensures.taken,
  grows_kept _ _ _ _ c.requests.invariant.2 c.if-not-answer_one.ensures.kept,
  (c.requests.invariant.0, _, refl, c.if-not-answer_one.ensures.missing, refl),
)

pub requests-preserved : goal.requests-preserved
requests-preserved g c = (
  _,
  grows_more _ _ _ _ _ c.requests.invariant.1 c.in-Some.ensures.taken,
  subst (λ replies. Grows (g.P.Replies.sent c.args.replies.now) (g.P.Replies.sent c.answer_one.new.replies) replies)
      (sym (filter_map-append (reply_to c.args.served.now.geometry.now c.args.served.now.image.now) c.requests.invariant.0 _))
      (grows_more _ _ _ _ _ c.requests.invariant.2 c.if-not-answer_one.ensures.sent),
  length-append c.requests.invariant.0 _ ∙ ap (λ n. n + 1) c.requests.invariant.3,
)
