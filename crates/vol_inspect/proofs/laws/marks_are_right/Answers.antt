use Rattle.vol_inspect.proofs.CellLaws.{marks_are_right}
use Rattle.vol_inspect.proofs.laws.marks_are_right.Goals as goal

pub returns : goal.returns
returns c = marks_are_right
