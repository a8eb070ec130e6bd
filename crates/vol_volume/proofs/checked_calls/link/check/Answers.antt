use Rattle.std.proofs.Common.{◌∙◌, sym, ap}
use Rattle.std.proofs.lemmas.Result.{err_from_is_err_and}
use Rattle.vol_dir.specs.Tree.{tree, state}
use Rattle.vol_dir.specs.Walk.{walk}
use Rattle.vol_volume.specs.Verdict.{of_node, link_refusal}
use Rattle.vol_volume.proofs.TwoPaths.{source_refused, target_refused, rest_asked}
use Rattle.vol_volume.proofs.checked_calls.link.check.Goals as goal

pub returns-in_err-first_tests-clause-refusal : goal.returns-in_err-first_tests-clause-refusal
returns-in_err-first_tests-clause-refusal c =
    let p = err_from_is_err_and c.from_residual.result c.from_residual.ensures.1 in
    rw (p.1, p.2)
    (sym (source_refused c.args.geometry.now c.args.image.now c.args.cred c.args.source.now c.args.target.now
    (of_node (walk (tree c.args.geometry.now c.args.image.now) c.args.cred c.args.source.now)
    (link_refusal (state c.args.geometry.now c.args.image.now) c.args.cred c.args.target.now))
    c.in_err-first_tests.field-0.0 c.in_err-first_tests.ensures))

pub returns-in_err-refuse_if-clause-refusal : goal.returns-in_err-refuse_if-clause-refusal
returns-in_err-refuse_if-clause-refusal c =
    let p = err_from_is_err_and c.from_residual-in_err-refuse_if.result c.from_residual-in_err-refuse_if.ensures.1 in
    rw (p.1, p.2, c.in_err-refuse_if.ensures.1)
    (sym (target_refused c.args.geometry.now c.args.image.now c.args.cred c.args.source.now c.args.target.now
    (of_node (walk (tree c.args.geometry.now c.args.image.now) c.args.cred c.args.source.now)
    (link_refusal (state c.args.geometry.now c.args.image.now) c.args.cred c.args.target.now))
    c.in_ok-first_tests.ensures (sym c.has_zero.ensures ∙ c.in_err-refuse_if.ensures.0)))

pub returns-in_err-i-clause-refusal : goal.returns-in_err-i-clause-refusal
returns-in_err-i-clause-refusal c =
    let p = err_from_is_err_and c.from_residual-in_err-i.result c.from_residual-in_err-i.ensures.1 in
    let others = link_refusal (state c.args.geometry.now c.args.image.now) c.args.cred c.args.target.now in
    rw (p.1, p.2)
    (sym (rest_asked c.args.geometry.now c.args.image.now c.args.cred c.args.source.now c.args.target.now
    (of_node (walk (tree c.args.geometry.now c.args.image.now) c.args.cred c.args.source.now) others)
    c.in_ok-first_tests.ensures (sym c.has_zero.ensures ∙ c.in_ok-refuse_if.ensures)
    ∙ ap (λ walked. of_node walked others) (sym c.in_err-i.ensures.exact)))

pub returns-in_err-entry-clause-refusal : goal.returns-in_err-entry-clause-refusal
returns-in_err-entry-clause-refusal c =
    let p = err_from_is_err_and c.from_residual-in_err-entry.result c.from_residual-in_err-entry.ensures.1 in
    let others = link_refusal (state c.args.geometry.now c.args.image.now) c.args.cred c.args.target.now in
    rw (p.1, p.2)
    (c.in_err-entry.ensures.refusal
    ∙ sym (rest_asked c.args.geometry.now c.args.image.now c.args.cred c.args.source.now c.args.target.now
    (of_node (walk (tree c.args.geometry.now c.args.image.now) c.args.cred c.args.source.now) others)
    c.in_ok-first_tests.ensures (sym c.has_zero.ensures ∙ c.in_ok-refuse_if.ensures)
    ∙ ap (λ walked. of_node walked others) (sym c.in_ok-i.ensures.exact)))

pub returns-clause-refusal : goal.returns-clause-refusal
returns-clause-refusal c =
    let others = link_refusal (state c.args.geometry.now c.args.image.now) c.args.cred c.args.target.now in
    c.in_ok-entry.ensures.refusal
    ∙ sym (rest_asked c.args.geometry.now c.args.image.now c.args.cred c.args.source.now c.args.target.now
    (of_node (walk (tree c.args.geometry.now c.args.image.now) c.args.cred c.args.source.now) others)
    c.in_ok-first_tests.ensures (sym c.has_zero.ensures ∙ c.in_ok-refuse_if.ensures)
    ∙ ap (λ walked. of_node walked others) (sym c.in_ok-i.ensures.exact))
