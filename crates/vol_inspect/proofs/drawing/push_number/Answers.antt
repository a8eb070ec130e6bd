use Rattle.vol_inspect.proofs.Columns.{in_number_column}
use Rattle.vol_inspect.proofs.drawing.push_number.Goals as goal

pub returns : goal.returns
returns c = rw (c.laid_out.ensures, in_number_column c.args.n) at c.write.ensures.bytes
