use Rattle.std.proofs.Common.{ap}
use Rattle.vol_dir.specs.Walk.{walk}
use Rattle.vol_change.specs.Edits.{at_time}
use Rattle.vol_volume.specs.Step.{changed_by}
use Rattle.vol_volume.proofs.Journals.{write_nothing}
use Rattle.vol_volume.proofs.laws.no_bytes_change_nothing.Goals as goal

pub returns : goal.returns
unfolding changed_by
returns c state cred now offset path done = ap (at_time now) (write_nothing state now offset (walk state.tree cred path))
