use Rattle.std.proofs.Common.{◌∙◌, refl, ap, ◌+◌, length-append, []}
use Rattle.vol_serve.proofs.MessageLaws.{grows_kept, grows_by_none}
use Rattle.vol_mounted.proofs.Stores.{turn_keeps}
use Rattle.vol_mounted.proofs.TurnLaws.{follow_more, follow_none, requests_grow, replies_grow, images_grow}
use Rattle.vol_mounted.proofs.service.run.Goals as goal

pub requests-init : goal.requests-init
requests-init g c = ([], grows_by_none _, grows_by_none _, grows_by_none _, follow_none _, refl, λ file stores. stores)

pub returns-then-not-take_turn-clause-turns : goal.returns-then-not-take_turn-clause-turns
returns-then-not-take_turn-clause-turns g c = (
  _,
  _,
  requests_grow _ _ _ c.requests.invariant.0 c.if-not-take_turn.ensures.0 _ c.if-not-take_turn.ensures.1 c.requests.invariant.1 c.in-Some.ensures.taken,
  grows_kept _ _ _ _ c.requests.invariant.2 c.if-not-take_turn.ensures.4.0,
  images_grow _ _ _ c.requests.invariant.0 c.if-not-take_turn.ensures.0 c.requests.invariant.3 c.if-not-take_turn.ensures.3,
  (c.requests.invariant.0, c.if-not-take_turn.ensures.0, refl, c.if-not-take_turn.ensures.4.1, refl),
  follow_more _ _ _ c.requests.invariant.0 c.if-not-take_turn.ensures.0 c.requests.invariant.4 c.if-not-take_turn.ensures.2,
)

pub requests-preserved : goal.requests-preserved
requests-preserved g c = (
  _,
  requests_grow _ _ _ c.requests.invariant.0 c.if-not-take_turn.ensures.0 _ c.if-not-take_turn.ensures.1 c.requests.invariant.1 c.in-Some.ensures.taken,
  replies_grow _ _ _ c.requests.invariant.0 c.if-not-take_turn.ensures.0 c.requests.invariant.2 c.if-not-take_turn.ensures.4,
  images_grow _ _ _ c.requests.invariant.0 c.if-not-take_turn.ensures.0 c.requests.invariant.3 c.if-not-take_turn.ensures.3,
  follow_more _ _ _ c.requests.invariant.0 c.if-not-take_turn.ensures.0 c.requests.invariant.4 c.if-not-take_turn.ensures.2,
  length-append c.requests.invariant.0 _ ∙ ap (λ n. n + 1) c.requests.invariant.5,
  λ file stores. turn_keeps file _ _ _ _ c.if-not-take_turn.ensures.0 c.if-not-take_turn.ensures.3 c.if-not-take_turn.ensures.2 (c.requests.invariant.6 file stores),
)

pub returns-then-not-take_turn-clause-stored : goal.returns-then-not-take_turn-clause-stored
returns-then-not-take_turn-clause-stored g c file stores =
    turn_keeps file _ _ _ _ c.if-not-take_turn.ensures.0 c.if-not-take_turn.ensures.3 c.if-not-take_turn.ensures.2 (c.requests.invariant.6 file stores)

pub returns-in_default-clause-turns : goal.returns-in_default-clause-turns
returns-in_default-clause-turns g c = ([], [], grows_by_none _, grows_by_none _, grows_by_none _, (refl, refl), follow_none _)

pub returns-then-not-take_turn-clause-failed : goal.returns-then-not-take_turn-clause-failed
returns-then-not-take_turn-clause-failed g c is = c.if-not-take_turn.ensures.4.2
