use Rattle.std.proofs.Common.{◌∙◌, ◌++◌, ℕ, List, ap}
use Rattle.field_json.specs.Items.{around}
use Rattle.field_json.proofs.ItemTexts.{around_items}
use Rattle.field_json.proofs.items.items_json.Goals as goal

pub returns : goal.returns
returns c datas is =
    c.in_ok-push_around.ensures
    ∙ (ap (λ (text : List ℕ). text ++ around c.args.items.now) c.new-text.ensures.items ∙ (ap around is ∙ around_items datas))
