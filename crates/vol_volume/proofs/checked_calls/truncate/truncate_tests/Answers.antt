use Rattle.std.proofs.Common.{◌≡◌, ◌∙◌, sym, ap, Bool, true, false, nat_lt, if◌then◌else◌, [], ◌∷◌, None, Some, Result, Ok, Err}
use Rattle.std.specs.Prelude.{MatchResult}
use Rattle.std.specs.Result.{result_err}
use Rattle.std.proofs.lemmas.Result.{err_from_is_err_and}
use Rattle.vol_dir.specs.Access.{may_write}
use Rattle.vol_dir.specs.Tree.{tree}
use Rattle.vol_dir.specs.declared.refusal.Refusal.{Refusal}
use Rattle.vol_dir.specs.declared.refusal.Refusal.TheVariants as refusals
use Rattle.vol_change.specs.Nodes.{node_at}
use Rattle.vol_volume.specs.Verdict.{body_tests}
use Rattle.vol_volume.proofs.FirstTests.{first_some, first_none}
use Rattle.vol_volume.proofs.NodeReadings.{used_first, size_is}
use Rattle.vol_volume.proofs.checked_calls.truncate.truncate_tests.Goals as goal

-- the refusal of a list with a single check
refused_by : (result : Result (Unit {0}) Refusal) (test : Bool) (refusal : Refusal)
    → MatchResult result (λ done. test ≡ false) (λ error. (test ≡ true) × (error ≡ refusal))
    → result_err result ≡ (if test then Some refusal else None)
refused_by (Ok done) test refusal h = sym (ap (λ t. if t then Some refusal else None) h)
refused_by (Err error) test refusal h = ap Some h.1 ∙ sym (ap (λ t. if t then Some refusal else None) h.0)

pub returns-in_err-body_tests-clause-refusal : goal.returns-in_err-body_tests-clause-refusal
returns-in_err-body_tests-clause-refusal c =
    let p = err_from_is_err_and c.from_residual.result c.from_residual.ensures.1 in
    let asked = tree c.args.geometry.now c.args.image.now in
    rw (p.1, p.2)
    (sym (first_some (body_tests asked may_write c.args.cred c.args.i)
    ((nat_lt (node_at asked c.args.i).size c.args.length, refusals.Invalid) ∷ [])
    c.in_err-body_tests.field-0.0 (sym c.in_err-body_tests.ensures.exact)))

pub returns-clause-refusal : goal.returns-clause-refusal
returns-clause-refusal c =
    let geometry = c.args.geometry.now in
    let image = c.args.image.now in
    let asked = tree geometry image in
    let size : (node_at asked c.args.i).size ≡ c.size.result =
    size_is geometry image c.args.i (used_first geometry image c.args.i c.requires.used) c.requires.stands.files c.requires.used ∙ sym c.size.ensures in
    refused_by c.refuse_if.result (nat_lt c.size.result c.args.length) refusals.Invalid c.refuse_if.ensures
    ∙ (ap (λ n. if nat_lt n c.args.length then Some refusals.Invalid else None) (sym size)
    ∙ sym (first_none (body_tests asked may_write c.args.cred c.args.i)
    ((nat_lt (node_at asked c.args.i).size c.args.length, refusals.Invalid) ∷ [])
    (sym c.in_ok-body_tests.ensures.exact)))
