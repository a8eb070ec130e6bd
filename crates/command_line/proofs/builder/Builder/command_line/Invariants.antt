use Rattle.std.proofs.Common.{◌≡◌, take}
use Rattle.command_words.specs.Verbs.{all_verbs}
use Rattle.command_line.specs.Words.{app, program, with_commands}
use Rattle.command_line.proofs.builder.Builder.command_line.Given as goal

-- Invariant: the commands so far have been added.
abbrev pub invariant-loop-verb : goal.invariant-loop-verb
invariant-loop-verb l = app l.whole ≡ with_commands l.fn.self.editions program (take l.verb-index all_verbs)
