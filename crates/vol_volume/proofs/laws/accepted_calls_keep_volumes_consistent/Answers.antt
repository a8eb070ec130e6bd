use Rattle.vol_volume.proofs.Journals.{kept_consistent}
use Rattle.vol_volume.proofs.laws.accepted_calls_keep_volumes_consistent.Goals as goal

pub returns : goal.returns
returns c = kept_consistent
