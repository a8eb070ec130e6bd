use Rattle.std.proofs.Common.{◌≡◌, ◌∙◌, [], ℕ, take, OnOk, ap, subst}
use Rattle.vol_volume.specs.Volume.{reads_as}
use Rattle.vol_import.specs.Plan.{drafted, steps_of, with_way}
use Rattle.vol_import.proofs.Steps.{way_texts}
use Rattle.vol_import.proofs.import_plan.push_way_to.Goals as goal

pub returns : goal.returns
returns c =
    let steps = steps_of c.args.path.now in
    subst (λ names. OnOk c.push_way.result (drafted c.push_way.new.draft
    ≡ with_way (reads_as c.args.volume.now.edition c.args.volume.now.image).tree c.args.base.now c.args.now [] names (drafted c.args.draft.now)))
    (way_texts c.way_length-count.result c.deref.result.now c.in_ok-steps.steps.items steps c.deref.ensures.value c.in_ok-steps.ensures
    ∙ ap (λ (n : ℕ). take n steps) c.way_length-count.ensures.exact)
    c.push_way.ensures
