use Rattle.vol_listing.proofs.dates.+pass_years.Given as goal

abbrev pub decreases-pass_years : goal.decreases-pass_years
decreases-pass_years l = l.count
