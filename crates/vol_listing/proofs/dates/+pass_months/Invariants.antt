use Rattle.vol_listing.proofs.dates.+pass_months.Given as goal

abbrev pub decreases-pass_months : goal.decreases-pass_months
decreases-pass_months l = l.count
