use Rattle.std.proofs.Common.{List, ap, subst, ◌∙◌, IfOk}
use Rattle.std.specs.Prelude.{◌≡◌}
use Rattle.std.specs.String.{string_bytes}
use Rattle.serde_json.specs.Data.{Data}
use Rattle.serde_json.specs.View.{items_of}
use Rattle.serde_json.specs.Written.{items_have_float}
use Rattle.vol_dir.specs.Tree.{tree}
use Rattle.vol_listing.specs.Json.{entries_text}
use Rattle.vol_listing.proofs.ListingValues.{all_whole}
use Rattle.vol_listing.proofs.listing_json.json_text.Goals as goal

pub entries_line-requires : goal.entries_line-requires
entries_line-requires c =
    ap (λ (ds : List Data). items_have_float (items_of ds)) c.in_ok-values.ensures
    ∙ all_whole (tree c.args.geometry.now c.args.image.now) c.args.depth c.args.place.now c.args.places.now

pub returns : goal.returns
returns c =
    subst (λ (ds : List Data). IfOk c.entries_line.result (λ text. string_bytes text ≡ entries_text ds)) c.in_ok-values.ensures c.entries_line.ensures
