use Rattle.std.proofs.Common.{◌≡◌, ◌++◌, codes, IfOk, ap, map, subst, ◌∙◌}
use Rattle.std.specs.String.{string_bytes}
use Rattle.serde_json.specs.Data.{Data}
use Rattle.serde_json.specs.View.{view}
use Rattle.serde_json.specs.Written.{compact_text, has_float}
use Rattle.field_json.proofs.ItemTexts.{lines_whole}
use Rattle.field_json.proofs.items.values_json.Goals as goal

pub line-requires : goal.line-requires
line-requires c = ap has_float c.in_ok-value.ensures ∙ lines_whole (map view c.args.values.items) c.requires

pub returns : goal.returns
returns c =
    subst (λ (d : Data). IfOk c.line.result (λ text. string_bytes text ≡ compact_text d ++ codes "\n")) c.in_ok-value.ensures c.line.ensures
