use Rattle.std.proofs.Common.{◌∙◌}
use Rattle.command_changes.proofs.ExtraEntries.{removes}
use Rattle.command_changes.proofs.extras.removals.Goals as goal

pub returns : goal.returns
returns c =
    removes _ _ c.args.syncing c.args.extra c.args.members.now _ _ _ _ _ _ c.plan_removals.result c.geometry-geometry.ensures.sizes c.image-image.ensures
    c.as_bytes.ensures.value c.pruned-start.ensures.exact c.in_ok-founds.ensures (c.deref.ensures.value ∙ c.reverse.ensures.items)
    c.plan_removals.ensures.calls c.plan_removals.ensures.lines
