use Rattle.vol_inspect.proofs.CellLaws.{no_use_has_more}
use Rattle.vol_inspect.proofs.laws.cells_show_the_most_common_use.Goals as goal

pub returns : goal.returns
returns c = no_use_has_more
