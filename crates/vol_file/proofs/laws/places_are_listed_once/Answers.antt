use Rattle.vol_file.proofs.PlaceLists.{places_among, among_places, places_once}
use Rattle.vol_file.proofs.laws.places_are_listed_once.Goals as goal

pub returns : goal.returns
returns c = record { all = λ form p. (among_places form p, places_among form p); once = places_once }
