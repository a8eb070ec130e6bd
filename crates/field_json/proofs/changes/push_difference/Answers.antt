use Rattle.std.proofs.Common.{ap, ◌∙◌}
use Rattle.serde_json.specs.Written.{has_float}
use Rattle.field_json.proofs.Whole.{difference_whole}
use Rattle.field_json.proofs.changes.push_difference.Goals as goal

pub push_item-requires : goal.push_item-requires
push_item-requires c =
    ap has_float c.in_ok-value.ensures
    ∙ difference_whole c.args.old.now.geometry.now c.args.old.now.roles.now c.args.old.now.image.now c.args.new.now.roles.now c.args.new.now.image.now
    c.args.difference
