use Rattle.std.proofs.Common.{◌≡◌, map, take}
use Rattle.command_words.specs.Verbs.{argument_of, verb_name}
use Rattle.command_line.specs.Words.{named_shape, shape, with_arguments}
use Rattle.command_line.proofs.builder.Builder.bare_command.Given as goal

-- Invariant: the arguments so far have been added.
abbrev pub invariant-loop-parameter : goal.invariant-loop-parameter
invariant-loop-parameter l =
    shape l.command ≡ with_arguments l.fn.self.editions (named_shape (verb_name l.fn.verb)) (map argument_of (take l.parameter-index l.parameters))
