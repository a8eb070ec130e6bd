use Rattle.std.proofs.Common.{◌∙◌, ap, arith}
use Rattle.std.proofs.lemmas.List.{take_all}
use Rattle.command_words.specs.Verbs.{all_verbs}
use Rattle.command_line.specs.Words.{program, unixvol_app, with_commands}
use Rattle.command_line.proofs.Shapes.{adds_verb}
use Rattle.command_line.proofs.builder.Builder.command_line.Goals as goal

pub loop-verb-preserved : goal.loop-verb-preserved
loop-verb-preserved c =
    adds_verb _ _ _ c.args.self.editions program all_verbs c.loop-verb.verb-index _ (omega arith) c.in_ok-whole-2.ensures c.in_ok-command.ensures
    c.loop-verb.invariant

pub returns : goal.returns
unfolding unixvol_app
returns c = c.loop-verb.invariant ∙ ap (with_commands c.args.self.editions program) (take_all c.loop-verb.verb-index all_verbs (omega arith))
