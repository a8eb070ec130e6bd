use Rattle.command_line.proofs.Shapes.{takes_words}
use Rattle.command_line.proofs.builder.several.Goals as goal

pub returns : goal.returns
returns c = takes_words c.required.result c.num_args.result _ c.required.ensures c.num_args.ensures.0 c.num_args.ensures.1
