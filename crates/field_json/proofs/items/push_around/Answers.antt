use Rattle.std.proofs.Common.{◌∙◌, ◌++◌, ℕ, List, ap, append_assoc, codes}
use Rattle.field_json.specs.Items.{after_first}
use Rattle.field_json.proofs.items.push_around.Goals as goal

pub returns : goal.returns
returns c =
    let rest = after_first c.args.items.now ++ codes "]}\n" in
    c.in_ok-push_rest.ensures
    ∙ (ap (λ (text : List ℕ). text ++ rest) c.in_ok-extend_from_slice.ensures.items
    ∙ append_assoc c.args.text.now.items (codes "{\"format\":1,\"lines\":[") rest)
