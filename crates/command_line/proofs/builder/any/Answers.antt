use Rattle.command_line.proofs.Shapes.{takes_any}
use Rattle.command_line.proofs.builder.any.Goals as goal

pub returns : goal.returns
returns c = takes_any c.optional.result c.num_args.result _ c.optional.ensures c.num_args.ensures.0 c.num_args.ensures.1
