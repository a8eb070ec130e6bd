-- If JSON with octal digits is asked for, the words of `dump` mean nothing.
use Rattle.std.proofs.Common.{drop, inl, inr}
use Rattle.command_words.proofs.DumpWords.{digits_of_json}
use Rattle.command_words.proofs.Faults.{hands_on}
use Rattle.command_words.proofs.Values.{no_value, volume_wrong}
use Rattle.command_words.specs.Verbs.{arguments_of}
use Rattle.command_words.specs.declared.verbs.Verb.TheVariants as verbs
use Rattle.command_words.proofs.commands.dump.read.Goals as goal

pub returns-in_err-volume-clause-refused : goal.returns-in_err-volume-clause-refused
returns-in_err-volume-clause-refused g c =
    hands_on _ _ _ _ c.from_residual.ensures.1 c.in_err-volume.ensures.refused
    (λ wrong. no_value c.args._clock verbs.Dump (g.G.Given.words c.args.given.now) (volume_wrong c.args._clock (g.G.Given.words c.args.given.now) (drop 3 (arguments_of verbs.Dump)) wrong))

pub returns-in_err-target-clause-refused : goal.returns-in_err-target-clause-refused
returns-in_err-target-clause-refused g c =
    hands_on _ _ _ _ c.from_residual-in_err-target.ensures.1 c.in_err-target.ensures.refused
    (λ wrong. no_value c.args._clock verbs.Dump (g.G.Given.words c.args.given.now) (inr (inr (inr (inl wrong)))))

pub returns-in_err-form-clause-refused : goal.returns-in_err-form-clause-refused
returns-in_err-form-clause-refused g c =
    hands_on _ _ _ _ c.from_residual-in_err-form.ensures.1 c.in_err-form.ensures.refused (digits_of_json c.args._clock (g.G.Given.words c.args.given.now))
