use Rattle.std.proofs.Common.{◌≡◌, ◌++◌, codes, map, ap, subst, ◌∙◌, IfOk, false}
use Rattle.std.specs.String.{string_bytes}
use Rattle.serde_json.specs.Data.{Data}
use Rattle.serde_json.specs.View.{view}
use Rattle.serde_json.specs.Written.{compact_text, has_float}
use Rattle.vol_listing.proofs.ListingValues.{listed_whole}
use Rattle.vol_listing.proofs.json.entries_line.Goals as goal

pub line-requires : goal.line-requires
line-requires c = ap has_float c.in_ok-value.ensures ∙ listed_whole (map view c.args.entries.items) c.requires

pub returns : goal.returns
returns c = subst (λ (d : Data). IfOk c.line.result (λ text. string_bytes text ≡ compact_text d ++ codes "\n")) c.in_ok-value.ensures c.line.ensures
