use Rattle.vol_listing.proofs.KnownLaws.{rows_right, sums_right}
use Rattle.vol_listing.proofs.laws.manifests_are_right.Goals as goal

pub returns-clause-sums : goal.returns-clause-sums
returns-clause-sums c = sums_right

pub returns-clause-rows : goal.returns-clause-rows
returns-clause-rows c = rows_right
