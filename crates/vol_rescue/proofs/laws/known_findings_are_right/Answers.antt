use Rattle.vol_rescue.proofs.KnownFindings.{findings_right}
use Rattle.vol_rescue.proofs.laws.known_findings_are_right.Goals as goal

pub returns : goal.returns
returns c = findings_right
