use Rattle.std.proofs.Common.{◌∙◌, ◌+◌, sym, [], ◌∷◌}
use Rattle.std.proofs.lemmas.Result.{err_from_is_err_and}
use Rattle.vol_dir.specs.Access.{may_write}
use Rattle.vol_dir.specs.Tree.{tree, state}
use Rattle.vol_dir.specs.declared.refusal.Refusal.TheVariants as refusals
use Rattle.vol_volume.specs.Verdict.{is_too_great, is_above_free, write_need, body_tests}
use Rattle.vol_volume.proofs.FirstTests.{first_some, first_none}
use Rattle.vol_volume.proofs.checked_calls.write.write_tests.Goals as goal

pub returns-in_err-body_tests-clause-refusal : goal.returns-in_err-body_tests-clause-refusal
returns-in_err-body_tests-clause-refusal c =
    let p = err_from_is_err_and c.from_residual.result c.from_residual.ensures.1 in
    let asked = tree c.args.geometry.now c.args.image.now in
    rw (p.1, p.2)
    (sym (first_some (body_tests asked may_write c.args.cred c.args.i)
    ((is_too_great asked (c.args.offset + c.args.len), refusals.TooBig)
    ∷ (is_above_free (state c.args.geometry.now c.args.image.now) (write_need (state c.args.geometry.now c.args.image.now) c.args.i c.args.offset c.args.len), refusals.NoSpace) ∷ [])
    c.in_err-body_tests.field-0.0 (sym c.in_err-body_tests.ensures.exact)))

pub returns-clause-refusal : goal.returns-clause-refusal
returns-clause-refusal c =
    let asked = tree c.args.geometry.now c.args.image.now in
    c.room_tests.ensures.refusal
    ∙ sym (first_none (body_tests asked may_write c.args.cred c.args.i)
    ((is_too_great asked (c.args.offset + c.args.len), refusals.TooBig)
    ∷ (is_above_free (state c.args.geometry.now c.args.image.now) (write_need (state c.args.geometry.now c.args.image.now) c.args.i c.args.offset c.args.len), refusals.NoSpace) ∷ [])
    (sym c.in_ok-body_tests.ensures.exact))
