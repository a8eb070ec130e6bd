use Rattle.vol_inspect.proofs.CellLaws.{hides_no_fault}
use Rattle.vol_inspect.proofs.laws.cells_hide_no_fault.Goals as goal

pub returns : goal.returns
returns c = hides_no_fault
