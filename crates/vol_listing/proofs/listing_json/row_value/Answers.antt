use Rattle.std.proofs.Common.{◌≡◌, ◌∙◌, ap, rules}
use Rattle.serde_json.specs.Data.{object}
use Rattle.serde_json.specs.View.{members_view, view}
use Rattle.serde_json.specs.declared.value.Value.{Object, the_lemmas}
use Rattle.vol_listing.proofs.ListingValues.{row_in_order}
use Rattle.vol_listing.proofs.listing_json.row_value.Goals as goal

pub returns : goal.returns
returns c =
    let built = c.in_ok-object.object in
    let opened : view (Object built) ≡ object (members_view built.entries) = search (rules, the_lemmas) in
    opened ∙ (ap object c.in_ok-object.ensures ∙ row_in_order c.args.path.now c.args.row)
