use Rattle.std.proofs.Common.{◌≡◌, ◌∙◌, true, List, ℕ, Bor, ap, sym, subst, refl, arith, get_or, take}
use Rattle.std.specs.BTreeSet.{contains}
use Rattle.std.proofs.lemmas.List.{take_all}
use Rattle.command_words.specs.Invocations.{are_distinct}
use Rattle.command_words.proofs.FileWords.{HoldsNames, distinct_more, holds_more, holds_none, no_name, not_distinct, not_false, not_true, text_cmp, texts, texts_more}
use Rattle.command_words.proofs.several.repeated.Goals as goal

pub loop-name-init : goal.loop-name-init
loop-name-init c = record {
  distinct = refl;
  seen = holds_none c.new-seen.result c.new-seen.ensures.empty;
}

pub returns-then-not-branch-clause-some : goal.returns-then-not-branch-clause-some
returns-then-not-branch-clause-some c =
    let name : Bor (List ℕ) = get_or c.args.names.now c.loop-name.name-index no_name in
    not_distinct c.loop-name.seen c.args.names.now c.loop-name.name-index no_name (omega (arith, c.loop-name-test.true)) c.loop-name.invariant.seen
    (not_false c.in_ok-insert.field-0 (contains text_cmp c.loop-name.seen name) c.in_ok-insert.ensures.added c.if-not-branch.true)

pub loop-name-preserved : goal.loop-name-preserved
loop-name-preserved c =
    let name : Bor (List ℕ) = get_or c.args.names.now c.loop-name.name-index no_name in
    let before = texts (take c.loop-name.name-index c.args.names.now) in
    let more = texts_more c.args.names.now c.loop-name.name-index no_name (omega (arith, c.loop-name-test.true)) in
    let new = not_true c.in_ok-insert.field-0 (contains text_cmp c.loop-name.seen name) c.in_ok-insert.ensures.added c.if-not-branch.false in
    record {
      distinct = ap are_distinct more ∙ distinct_more c.loop-name.seen before name c.loop-name.invariant.seen new c.loop-name.invariant.distinct;
      seen = subst (HoldsNames c.insert.new.self) (sym more) (holds_more c.loop-name.seen c.insert.new.self before name c.loop-name.invariant.seen c.in_ok-insert.ensures.updates);
    }

pub returns-clause-none : goal.returns-clause-none
returns-clause-none c none =
    subst (λ (names : List (Bor (List ℕ))). are_distinct (texts names) ≡ true) (take_all c.loop-name.name-index c.args.names.now c.loop-name-test.false)
    c.loop-name.invariant.distinct
