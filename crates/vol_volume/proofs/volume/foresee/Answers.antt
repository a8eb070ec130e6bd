use Rattle.std.proofs.Common.{◌∙◌, sym}
use Rattle.vol_volume.proofs.AcceptedCalls.{counted}
use Rattle.vol_volume.proofs.volume.foresee.Goals as goal

pub check-requires-clause-count : goal.check-requires-clause-count
check-requires-clause-count c = c.requires.2 ∙ sym (counted c.args.parts.now.geometry c.args.parts.now.current)
