use Rattle.vol_listing.proofs.Dated.{shown}
use Rattle.vol_listing.proofs.laws.dates_are_of_the_calendar.Goals as goal

pub returns : goal.returns
returns c = shown
