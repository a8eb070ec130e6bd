use Rattle.vol_inspect.proofs.CellLaws.{hides_no_gap}
use Rattle.vol_inspect.proofs.laws.cells_hide_no_gap.Goals as goal

pub returns : goal.returns
returns c = hides_no_gap
