use Rattle.std.proofs.Common.{◌∙◌, ap, arith}
use Rattle.vol_volume.specs.Volume.{reads_as}
use Rattle.vol_import.specs.Plan.{drafted, with_way_directory}
use Rattle.vol_import.proofs.Steps.{no_step, way_end, way_more}
use Rattle.vol_import.proofs.draft.push_way.Goals as goal

pub loop-step-preserved : goal.loop-step-preserved
loop-step-preserved c =
    way_more _ _ _ c.loop-step.path.items c.push_step.new.path.items c.args.steps.now c.loop-step.step-index no_step _ _ _ (omega (arith, c.loop-step-test.true))
    c.loop-step.invariant c.in_ok-push_step.ensures
    (c.in_ok-push_way_directory.ensures
    ∙ ap (λ path. with_way_directory (reads_as c.args.volume.now.edition c.args.volume.now.image).tree c.args.base.now c.args.now path (drafted c.loop-step.draft)) c.deref.ensures.value)

pub returns : goal.returns
returns c = way_end _ _ _ _ c.args.steps.now c.loop-step.step-index _ _ (omega (arith, c.loop-step-test.false)) c.loop-step.invariant
