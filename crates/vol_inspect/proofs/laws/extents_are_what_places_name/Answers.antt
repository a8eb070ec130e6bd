use Rattle.vol_inspect.proofs.LaidOut.{shows_places}
use Rattle.vol_inspect.proofs.laws.extents_are_what_places_name.Goals as goal

pub returns : goal.returns
returns c = shows_places
