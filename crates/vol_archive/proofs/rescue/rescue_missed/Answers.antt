use Rattle.std.proofs.Common.{◌+◌, ◌&&◌, ◌∙◌, ◌∷◌, [], List, ℕ, ap, sym, subst}
use Rattle.vol_dir.specs.Walk.{is_nil}
use Rattle.vol_judge.specs.Directories.{root_of}
use Rattle.vol_archive.specs.Export.{is_directory}
use Rattle.vol_archive.specs.Rescue.{with_first, IsRescuedUpTo}
use Rattle.vol_archive.specs.Walk.{Walks, lost_entry}
use Rattle.vol_archive.proofs.Rescues.{rescue_passes, rescue_takes}
use Rattle.vol_archive.proofs.rescue.rescue_missed.Goals as goal

pub returns-then-not-branch-clause-after : goal.returns-then-not-branch-clause-after
returns-then-not-branch-clause-after c =
    rescue_passes c.args.geometry.now c.args.image.now c.args.orphans.now c.args.rescued.unreached.items c.args.rescued.walked.founds.items c.args.i
    c.requires.before (sym c.in_ok-is_missed.ensures ∙ c.if-not-branch.true)

pub returns-clause-after : goal.returns-clause-after
returns-clause-after c =
    let g = c.args.geometry.now in
    let image = c.args.image.now in
    let orphans = c.args.orphans.now in
    let founds = c.args.rescued.walked.founds.items in
    let all = c.in_ok-walked-2.walked.founds.items in
    subst (λ (unreached : List ℕ). IsRescuedUpTo g image orphans unreached all (c.args.i + 1)) (sym c.in_ok-push.ensures.items)
    (rescue_takes g image orphans c.args.rescued.unreached.items founds c.in_ok-walked.walked.founds.items all c.args.i c.requires.before c.requires.root
    (sym c.in_ok-is_missed.ensures ∙ c.if-not-branch.false)
    (c.in_ok-walked.ensures.met
    ∙ ap (λ (unreached : List ℕ). with_first ((is_nil orphans && is_nil unreached) && is_directory g image (root_of g)) (root_of g) c.args.i founds) c.deref.ensures.value)
    (subst (λ root. Walks g image root c.in_ok-walked.walked.founds.items (lost_entry c.args.i ∷ []) all) (λ i. (c.constants-root.ensures i).root)
    c.in_ok-walked-2.ensures.walk))
