use Rattle.command_line.proofs.Shapes.{starts_program}
use Rattle.command_line.proofs.builder.bare_program.Goals as goal

pub returns : goal.returns
returns c =
    starts_program _ _ _ _ _ _ _ _ _ c.new.ensures.app c.version.ensures c.about.ensures c.after_help.ensures c.subcommand_required.ensures c.arg_required_else_help.ensures
