use Rattle.command_line.proofs.Shapes.{adds_option_to_program}
use Rattle.command_line.proofs.builder.program.Goals as goal

pub returns : goal.returns
returns c = adds_option_to_program _ c.arg.result _ c.arg.ensures c.explain_option.ensures c.bare_program.ensures
