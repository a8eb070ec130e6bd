use Rattle.std.proofs.Common.{◌∙◌}
use Rattle.command_line.specs.Words.{argument_rule}
use Rattle.command_line.proofs.Shapes.{other_kinds, takes_editions}
use Rattle.command_line.proofs.builder.Builder.argument.Goals as goal

pub returns-in-Edition : goal.returns-in-Edition
unfolding argument_rule
returns-in-Edition c =
    rw c.in-Edition.is
    (takes_editions c.needed-argument.result c.value_parser.result c.args.self.editions _ c.needed-argument.ensures c.value_parser.ensures.others (cc))

pub returns-in_default : goal.returns-in_default
unfolding argument_rule
returns-in_default c = c.needed-argument.ensures ∙ other_kinds c.args.self.editions c.args.parameter.kind _ c.in_default.not-Edition
