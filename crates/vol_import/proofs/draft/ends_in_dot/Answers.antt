use Rattle.std.proofs.Common.{Bool, not, ◌≡◌, ◌∙◌, ap, sym}
use Rattle.vol_dir.specs.Walk.{components}
use Rattle.vol_import.proofs.Steps.{dot_next, dot_start, last_dot}
use Rattle.vol_import.proofs.draft.ends_in_dot.Goals as goal

pub names-init : goal.names-init
names-init c = dot_start (components c.args.path.now)

pub names-preserved : goal.names-preserved
names-preserved c =
    ap (λ (step : Bool). last_dot (not step) (components c.in-Some.rest.now)) c.is_step-is_dot.ensures
    ∙ (dot_next c.names.is_dot (components c.names.left.now) c.in-Some.name.now (components c.in-Some.rest.now) c.in-Some.ensures.parts
    ∙ c.names.invariant)

pub returns : goal.returns
returns c = sym (ap (last_dot c.names.is_dot) c.in_default.ensures.parts) ∙ c.names.invariant
