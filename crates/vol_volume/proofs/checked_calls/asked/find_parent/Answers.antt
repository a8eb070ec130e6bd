use Rattle.std.proofs.Common.{◌∙◌, ap, ℕ, Bool, List}
use Rattle.std.proofs.lemmas.Result.{err_from_is_err_and, MatchResult-weaker}
use Rattle.vol_dir.specs.Tree.{tree}
use Rattle.vol_dir.specs.Walk.{walk_parent}
use Rattle.vol_dir.specs.declared.refusal.Refusal.{Refusal}
use Rattle.vol_volume.specs.Verdict.{of_parent}
use Rattle.vol_volume.proofs.AnsweredQueries.{first_refused, asked}
use Rattle.vol_volume.proofs.checked_calls.asked.find_parent.Goals as goal

pub returns-in_err-first_tests-clause-exact : goal.returns-in_err-first_tests-clause-exact
returns-in_err-first_tests-clause-exact c =
    let p = err_from_is_err_and c.from_residual.result c.from_residual.ensures.1 in
    rw (p.1, p.2)
    (λ tests. first_refused c.args.geometry.now c.args.image.now c.args.cred c.args.path.now c.in_err-first_tests.field-0.0 c.in_err-first_tests.ensures
    (of_parent (walk_parent (tree c.args.geometry.now c.args.image.now) c.args.cred c.args.path.now) c.args.bare tests))

pub returns-clause-exact : goal.returns-clause-exact
returns-clause-exact c =
    let asked_then = λ (tests : ℕ → List ℕ → List (Bool × Refusal)). asked c.args.geometry.now c.args.image.now c.args.cred c.args.path.now
    (of_parent (walk_parent (tree c.args.geometry.now c.args.image.now) c.args.cred c.args.path.now) c.args.bare tests) c.in_ok-first_tests.ensures in
    MatchResult-weaker c.parent.result c.parent.ensures.exact (λ found is tests. asked_then tests ∙ ap (λ walked. of_parent walked c.args.bare tests) is)
    (λ refusal is tests. asked_then tests ∙ is tests)
