use Rattle.std.proofs.Common.{◌∙◌}
use Rattle.vol_archive.proofs.Rescues.{rescue_at_root}
use Rattle.vol_archive.proofs.rescue.rescue_below.Goals as goal

pub returns-then-start-constants-clause-rescue : goal.returns-then-start-constants-clause-rescue
returns-then-start-constants-clause-rescue c =
    rescue_at_root c.args.geometry.now c.args.image.now c.args.orphans.now c.in_ok-rescued.rescued.unreached.items
    c.in_ok-rescued.rescued.walked.founds.items c.args.start c.in_ok-rescued.ensures
    (c.if-start-constants.true ∙ (λ i. (c.constants.ensures i).root))
