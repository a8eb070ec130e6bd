use Rattle.std.proofs.Common.{◌∙◌, refl, sym, length}
use Rattle.name_patterns.proofs.Stars.{at_none, at_apart, at_next, at_short, at_star, ends_here, ends_next, ends_none, none_of, some_of}
use Rattle.name_patterns.specs.Like.{is_like}
use Rattle.name_patterns.proofs.+like.Goals as goal

pub ends_like-returns-then-is_like : goal.ends_like-returns-then-is_like
ends_like-returns-then-is_like t c =
    sym (ends_here (is_like c.args.pattern.now) c.args.name.now (sym c.is_like.ensures ∙ c.if-is_like.true))

pub ends_like-returns-then-is_empty : goal.ends_like-returns-then-is_empty
ends_like-returns-then-is_empty t c =
    let none = none_of (length c.args.name.now) c.is_empty.result c.is_empty.ensures c.if-is_empty.true in
    sym (ends_none (is_like c.args.pattern.now) c.args.name.now none ∙ (sym c.is_like.ensures ∙ c.if-is_like.false))

pub ends_like-returns : goal.ends_like-returns
ends_like-returns t c =
    let some = some_of (length c.args.name.now) c.is_empty.result c.is_empty.ensures c.if-is_empty.false in
    c.ends_like.ensures ∙ sym (ends_next (is_like c.args.pattern.now) c.args.name.now _ refl some (sym c.is_like.ensures ∙ c.if-is_like.false))

pub is_like-returns-then-is_empty : goal.is_like-returns-then-is_empty
is_like-returns-then-is_empty t c =
    let none = none_of (length c.args.pattern.now) c.is_empty.result c.is_empty.ensures c.if-is_empty.true in
    c.is_empty-then-is_empty.ensures ∙ sym (at_none c.args.pattern.now c.args.name.now none)

pub is_like-returns-then-pattern-eq42 : goal.is_like-returns-then-pattern-eq42
is_like-returns-then-pattern-eq42 t c =
    let some = some_of (length c.args.pattern.now) c.is_empty.result c.is_empty.ensures c.if-is_empty.false in
    c.ends_like.ensures ∙ (c.after_stars.ensures.like c.args.name.now ∙ sym (at_star c.args.pattern.now c.args.name.now _ refl some c.if-pattern-eq42.true))

pub is_like-returns-then-is_empty-2 : goal.is_like-returns-then-is_empty-2
is_like-returns-then-is_empty-2 t c =
    let some = some_of (length c.args.pattern.now) c.is_empty.result c.is_empty.ensures c.if-is_empty.false in
    let none = none_of (length c.args.name.now) c.is_empty-2.result c.is_empty-2.ensures c.if-is_empty-2.true in
    sym (at_short c.args.pattern.now c.args.name.now some c.if-pattern-eq42.false none)

pub is_like-returns-then-not-stands_for : goal.is_like-returns-then-not-stands_for
is_like-returns-then-not-stands_for t c =
    let some = some_of (length c.args.pattern.now) c.is_empty.result c.is_empty.ensures c.if-is_empty.false in
    let more = some_of (length c.args.name.now) c.is_empty-2.result c.is_empty-2.ensures c.if-is_empty-2.false in
    let stands = sym c.stands_for.ensures ∙ c.if-not-stands_for.true in
    sym (at_apart c.args.pattern.now c.args.name.now some more c.if-pattern-eq42.false stands)

pub is_like-returns : goal.is_like-returns
is_like-returns t c =
    let some = some_of (length c.args.pattern.now) c.is_empty.result c.is_empty.ensures c.if-is_empty.false in
    let more = some_of (length c.args.name.now) c.is_empty-2.result c.is_empty-2.ensures c.if-is_empty-2.false in
    let stands = sym c.stands_for.ensures ∙ c.if-not-stands_for.false in
    c.is_like.ensures
    ∙ sym (at_next c.args.pattern.now c.args.name.now _ _ refl refl some more c.if-pattern-eq42.false stands)
