use Rattle.bad_maps.proofs.Ranges.{one_has_all}
use Rattle.bad_maps.proofs.laws.one_range_has_all.Goals as goal

pub returns : goal.returns
returns c = one_has_all
