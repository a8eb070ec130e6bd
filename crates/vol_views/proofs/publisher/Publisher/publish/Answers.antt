use Rattle.std.proofs.Common.{◌≡◌, ◌+◌, ◌++◌, ◌∷◌, [], drop, ap, ◌∙◌, Some}
use Rattle.vol_volume.specs.Journal.{MayFollow}
use Rattle.vol_views.specs.States.{state_of}
use Rattle.vol_views.specs.Logs.{number_of}
use Rattle.vol_views.specs.PublishedRule.{IsRight}
use Rattle.vol_views.specs.declared.published.Operation.{Operation}
use Rattle.vol_views.proofs.PublishedSteps.{shows_record, shown_record}
use Rattle.vol_views.proofs.publisher.Publisher.publish.Goals as goal

pub show-copies-requires : goal.show-copies-requires
show-copies-requires g c =
    let p = c.self.inside.copies.desk.shown.value in
    let right : IsRight p = c.self.invariant.2 in
    let same = c.self.invariant.1 in
    let may : MayFollow (state_of c.self.inside.ledger.log) c.args.made = rw c.self.view_is c.requires.may_follow in
    let number : c.published.result.now.at + 1 ≡ number_of c.self.inside.ledger.log + 1 =
    ap (λ q. q.at + 1) c.published.ensures ∙ ap (λ k. k + 1) (right.at ∙ ap (λ r. number_of r.log) same) in
    let added : Operation = record { made = Some c.args.made; at = c.published.result.now.at + 1; prefix = c.prefix.result } in
    let pending : drop c.add.new.copies.behind c.add.new.copies.log.items ≡ added ∷ [] = c.add.ensures.pending ∙ ap (λ w. w ++ added ∷ []) c.self.invariant.3 in
    rw (ap (λ d. d.shown.value) c.add.ensures.desk)
    (shows_record p c.self.inside.ledger c.prefix.result c.args.made (c.published.result.now.at + 1) (drop c.add.new.copies.behind c.add.new.copies.log.items) right same
    (ap (λ r. r.book) c.prefix.ensures ∙ c.append.ensures.book) (ap (λ r. r.log) c.prefix.ensures ∙ c.append.ensures.log) may number pending)

pub invariant_of-result : goal.invariant_of-result
invariant_of-result g c =
    let added : Operation = record { made = Some c.args.made; at = c.published.result.now.at + 1; prefix = c.prefix.result } in
    let pending : drop c.add.new.copies.behind c.add.new.copies.log.items ≡ added ∷ [] = c.add.ensures.pending ∙ ap (λ w. w ++ added ∷ []) c.self.invariant.3 in
    let prefix = shown_record c.add.new.copies.desk.shown.value c.show-copies.result.desk.shown.value c.prefix.result c.args.made (c.published.result.now.at + 1)
    (drop c.add.new.copies.behind c.add.new.copies.log.items) pending c.show-copies.ensures.shown ∙ c.prefix.ensures in (
      c.show-copies.ensures.view ∙ prefix,
      prefix,
      c.show-copies.ensures.right,
      c.show-copies.ensures.pending,
    )
