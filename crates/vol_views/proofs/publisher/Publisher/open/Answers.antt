use Rattle.std.proofs.Common.{◌≡◌, drop, ap, ◌∙◌}
use Rattle.vol_views.proofs.PublishedSteps.{holds_first, right_first, shows_empty, shows_same, shown_empty, shown_same}
use Rattle.vol_views.proofs.publisher.Publisher.open.Goals as goal

pub new-requires-clause-rule : goal.new-requires-clause-rule
new-requires-clause-rule g c =
    holds_first c.in_ok-first.first
    (right_first c.args.volume.now c.in_ok-first.first (ap (λ r. r.log) c.in_ok-first.ensures.prefix ∙ c.in-Some.ensures) c.in_ok-first.ensures.version
    (c.in_ok-first.ensures.at ∙ c.in_ok-at.ensures))

pub show-copies-requires : goal.show-copies-requires
show-copies-requires g c =
    let first = c.in_ok-first.first in
    let here : c.in_ok-copies-2.copies.desk.shown.value ≡ first = ap (λ d. d.shown.value) c.in_ok-copies-2.ensures.desk ∙ c.in_ok-copies.ensures.0 in
    rw here
    (shows_empty first c.in-Some.ledger c.in_ok-at.at (drop c.in_ok-copies-2.copies.behind c.in_ok-copies-2.copies.log.items)
    (right_first c.args.volume.now first (ap (λ r. r.log) c.in_ok-first.ensures.prefix ∙ c.in-Some.ensures) c.in_ok-first.ensures.version
    (c.in_ok-first.ensures.at ∙ c.in_ok-at.ensures)) c.in_ok-first.ensures.at c.in_ok-first.ensures.prefix c.in_ok-copies-2.ensures.pending)

pub show-copies-requires-2 : goal.show-copies-requires-2
show-copies-requires-2 g c =
    rw c.show-copies.ensures.pending (shows_same c.show-copies.result.desk.shown.value c.show-copies.ensures.right)

pub invariant_of-result : goal.invariant_of-result
invariant_of-result g c =
    let once = c.show-copies.result.desk.shown.value in
    let same : c.show-copies-2.result.desk.shown.value ≡ once =
    shown_same once c.show-copies-2.result.desk.shown.value (drop c.show-copies.result.behind c.show-copies.result.log.items) c.show-copies.ensures.pending c.show-copies-2.ensures.shown in
    let prefix : c.show-copies-2.result.desk.shown.value.prefix ≡ c.in-Some.ledger =
    ap (λ q. q.prefix) same
    ∙ shown_empty c.in_ok-copies-2.copies.desk.shown.value once c.in-Some.ledger c.in_ok-at.at (drop c.in_ok-copies-2.copies.behind c.in_ok-copies-2.copies.log.items)
    c.in_ok-copies-2.ensures.pending c.show-copies.ensures.shown in (
      c.show-copies-2.ensures.view ∙ prefix,
      prefix,
      c.show-copies-2.ensures.right,
      c.show-copies-2.ensures.pending,
    )
