use Rattle.std.proofs.Common.{List, map, ◌∙◌, ap, arith}
use Rattle.std.proofs.lemmas.List.{take_all}
use Rattle.command_words.specs.Verbs.{Argument, argument_of, verb_name}
use Rattle.command_words.specs.declared.parameters.Parameter.{Parameter}
use Rattle.command_line.specs.Words.{named_shape, with_arguments}
use Rattle.command_line.proofs.Shapes.{adds_argument}
use Rattle.command_line.proofs.builder.Builder.bare_command.Goals as goal

pub loop-parameter-preserved : goal.loop-parameter-preserved
loop-parameter-preserved c =
    adds_argument _ _ _ c.args.self.editions (named_shape (verb_name c.args.verb)) c.parameters-parameters.result.now c.loop-parameter.parameter-index _
    (omega arith) c.in_ok-command.ensures c.argument.ensures c.loop-parameter.invariant

pub returns : goal.returns
returns c =
    c.loop-parameter.invariant
    ∙ (ap (λ (ps : List Parameter). with_arguments c.args.self.editions (named_shape (verb_name c.args.verb)) (map argument_of ps))
    (take_all c.loop-parameter.parameter-index c.parameters-parameters.result.now (omega arith))
    ∙ ap (λ (row : List Argument). with_arguments c.args.self.editions (named_shape (verb_name c.args.verb)) row) c.parameters-parameters.ensures)
