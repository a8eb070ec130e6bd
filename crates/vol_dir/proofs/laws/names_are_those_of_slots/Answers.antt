use Rattle.vol_dir.proofs.NameMaps.{sorted, get_named}
use Rattle.vol_dir.proofs.laws.names_are_those_of_slots.Goals as goal

pub returns : goal.returns
returns c = record { first = get_named; ascending = sorted }
