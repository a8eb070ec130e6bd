use Rattle.vol_fields.proofs.RowLaws.{rows_bytes}
use Rattle.vol_fields.proofs.laws.rows_have_the_bytes.Goals as goal

pub returns : goal.returns
returns c g image t from to rows fits within done = (rows_bytes g t image to fits within rows from done).1
