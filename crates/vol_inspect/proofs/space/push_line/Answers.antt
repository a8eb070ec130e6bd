use Rattle.vol_inspect.proofs.Columns.{in_column}
use Rattle.vol_inspect.specs.Space.{space_line}
use Rattle.vol_inspect.proofs.space.push_line.Goals as goal

pub returns : goal.returns
unfolding space_line
returns c =
    rw (
      c.laid_out.ensures,
      c.laid_out-2.ensures,
      c.laid_out-3.ensures,
      in_column c.args.all,
      in_column c.in_use-used.result,
      in_column c.args.free,
      c.in_use-used.ensures,
    ) at c.write.ensures.bytes
