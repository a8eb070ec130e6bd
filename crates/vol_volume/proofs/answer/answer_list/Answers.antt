use Rattle.std.proofs.Common.{◌≡◌, rules, sym, ◌∙◌}
use Rattle.std.proofs.lemmas.Result.{err_from_is_err_and}
use Rattle.vol_dir.specs.Tree.{tree}
use Rattle.vol_volume.proofs.AnsweredQueries.{list_refused, list_tested, list_unmade, list_replied}
use Rattle.vol_volume.proofs.MappedErrors.{mapped_value}
use Rattle.vol_volume.proofs.NodeReadings.{names_are}
use Rattle.vol_dir.specs.declared.refusal.Refusal.TheVariants as refusals
use Rattle.vol_volume.proofs.answer.answer_list.Goals as goal

pub returns-in_err-i : goal.returns-in_err-i
returns-in_err-i c =
    let p = err_from_is_err_and c.from_residual.result c.from_residual.ensures.1 in
    rw (p.1, p.2) (list_refused (tree c.args.geometry.now c.args.image.now) c.args.cred c.args.path.now c.in_err-i.field-0.0 c.in_err-i.ensures.found)

pub returns-in_err-list_tests : goal.returns-in_err-list_tests
returns-in_err-list_tests c =
    let p = err_from_is_err_and c.from_residual-in_err-list_tests.result c.from_residual-in_err-list_tests.ensures.1 in
    rw (p.1, p.2)
    (list_tested (tree c.args.geometry.now c.args.image.now) c.args.cred c.args.path.now c.in_ok-i.i c.in_err-list_tests.field-0.0
    c.in_ok-i.ensures.found c.in_err-list_tests.ensures.exact)

pub returns : goal.returns
returns c =
    list_replied (tree c.args.geometry.now c.args.image.now) c.args.cred c.args.path.now c.in_ok-i.i c.from_vec.result
    c.in_ok-i.ensures.found c.in_ok-list_tests.ensures.exact
    (c.from_vec.ensures ∙ (mapped_value _ _ c.list_names.result c.in_ok-names.names c.in_ok-names.ensures.cases c.list_names.ensures
    ∙ sym (names_are c.args.geometry.now c.args.image.now c.in_ok-i.i c.in_ok-list_tests.ensures.directory)))

pub returns-in_err-names : goal.returns-in_err-names
returns-in_err-names c =
    let p = err_from_is_err_and c.from_residual-in_err-names.result c.from_residual-in_err-names.ensures.1 in
    let no_memory : c.in_err-names.field-0.0 ≡ refusals.NoMemory = search rules in
    rw (p.1, p.2, no_memory) (list_unmade (tree c.args.geometry.now c.args.image.now) c.args.cred c.args.path.now c.in_ok-i.i c.in_ok-i.ensures.found c.in_ok-list_tests.ensures.exact)
