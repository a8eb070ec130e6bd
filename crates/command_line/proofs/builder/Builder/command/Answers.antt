use Rattle.command_line.specs.Words.{verb_shape}
use Rattle.command_line.proofs.Shapes.{adds_option}
use Rattle.command_line.proofs.builder.Builder.command.Goals as goal

pub returns : goal.returns
unfolding verb_shape
returns c = adds_option _ c.arg.result _ _ c.arg.ensures c.explain_option.ensures c.in_ok-bare_command.ensures
