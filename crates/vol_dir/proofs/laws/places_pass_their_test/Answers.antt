use Rattle.vol_dir.proofs.PlaceTests.{place_passed, place_test}
use Rattle.vol_dir.proofs.laws.places_pass_their_test.Goals as goal

pub returns : goal.returns
returns c = λ form p. (place_passed form p, place_test form p)
