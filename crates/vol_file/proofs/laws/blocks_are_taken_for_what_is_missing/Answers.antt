use Rattle.vol_file.proofs.TakenPlaces.{missing_unnamed, unnamed_missing, taken_need}
use Rattle.vol_file.proofs.laws.blocks_are_taken_for_what_is_missing.Goals as goal

pub returns : goal.returns
returns c = record {
  missing = λ form names blocks p. (missing_unnamed form names blocks p, unnamed_missing form names blocks p);
  needed = taken_need;
}
