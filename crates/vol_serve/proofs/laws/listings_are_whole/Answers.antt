use Rattle.vol_serve.proofs.WholeListings.{listings_whole}
use Rattle.vol_serve.proofs.laws.listings_are_whole.Goals as goal

pub returns : goal.returns
returns c = listings_whole
