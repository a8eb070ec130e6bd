use Rattle.std.proofs.Common.{◌≡◌, rules, sym, ap, ◌∙◌}
use Rattle.std.proofs.lemmas.Result.{err_from_is_err_and}
use Rattle.vol_dir.specs.Tree.{tree}
use Rattle.vol_volume.specs.Answer.{read_bytes}
use Rattle.vol_volume.proofs.AnsweredQueries.{read_refused, read_tested, read_unmade, read_replied}
use Rattle.vol_volume.proofs.MappedErrors.{mapped_value}
use Rattle.vol_volume.proofs.QueriedNodes.{body_is}
use Rattle.vol_dir.specs.declared.refusal.Refusal.TheVariants as refusals
use Rattle.vol_volume.proofs.answer.answer_read.Goals as goal

pub returns-in_err-i : goal.returns-in_err-i
returns-in_err-i c =
    let p = err_from_is_err_and c.from_residual.result c.from_residual.ensures.1 in
    rw (p.1, p.2) (read_refused (tree c.args.geometry.now c.args.image.now) c.args.cred c.args.path.now c.args.offset c.args.len c.in_err-i.field-0.0
    c.in_err-i.ensures.found)

pub returns-in_err-body_tests : goal.returns-in_err-body_tests
returns-in_err-body_tests c =
    let p = err_from_is_err_and c.from_residual-in_err-body_tests.result c.from_residual-in_err-body_tests.ensures.1 in
    rw (p.1, p.2)
    (read_tested (tree c.args.geometry.now c.args.image.now) c.args.cred c.args.path.now c.args.offset c.args.len c.in_ok-i.i
    c.in_err-body_tests.field-0.0 c.in_ok-i.ensures.found c.in_err-body_tests.ensures.exact)

pub returns : goal.returns
returns c =
    read_replied (tree c.args.geometry.now c.args.image.now) c.args.cred c.args.path.now c.args.offset c.args.len c.in_ok-i.i c.from_vec.result
    c.in_ok-i.ensures.found c.in_ok-body_tests.ensures.exact
    (c.from_vec.ensures ∙ (mapped_value _ _ c.read.result c.in_ok-bytes.bytes c.in_ok-bytes.ensures.cases c.read.ensures
    ∙ ap (λ bytes. read_bytes bytes c.args.offset c.args.len) (sym (body_is c.args.geometry.now c.args.image.now c.in_ok-i.i c.in_ok-i.ensures.used c.in_ok-body_tests.ensures.regular))))

pub returns-in_err-bytes : goal.returns-in_err-bytes
returns-in_err-bytes c =
    let p = err_from_is_err_and c.from_residual-in_err-bytes.result c.from_residual-in_err-bytes.ensures.1 in
    let no_memory : c.in_err-bytes.field-0.0 ≡ refusals.NoMemory = search rules in
    rw (p.1, p.2, no_memory) (read_unmade (tree c.args.geometry.now c.args.image.now) c.args.cred c.args.path.now c.args.offset c.args.len c.in_ok-i.i c.in_ok-i.ensures.found c.in_ok-body_tests.ensures.exact)
