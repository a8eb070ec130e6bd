use Rattle.vol_listing.proofs.NamesListed.{lists_names}
use Rattle.vol_listing.proofs.laws.listings_have_all_names.Goals as goal

pub returns : goal.returns
returns c = lists_names
