-- If a trace is asked for as JSON, the words of `play` mean nothing.
use Rattle.std.proofs.Common.{drop, inl, inr}
use Rattle.command_words.proofs.Faults.{hands_on}
use Rattle.command_words.proofs.TracedPlays.{trace_as_json}
use Rattle.command_words.proofs.Values.{no_value, volume_wrong}
use Rattle.command_words.specs.Verbs.{arguments_of}
use Rattle.command_words.specs.declared.verbs.Verb.TheVariants as verbs
use Rattle.command_words.proofs.commands.play.read.Goals as goal

pub returns-in_err-volume-clause-refused : goal.returns-in_err-volume-clause-refused
returns-in_err-volume-clause-refused g c =
    hands_on _ _ _ _ c.from_residual.ensures.1 c.in_err-volume.ensures.refused
    (λ wrong. no_value c.args._clock verbs.Play (g.G.Given.words c.args.given.now) (volume_wrong c.args._clock (g.G.Given.words c.args.given.now) (drop 3 (arguments_of verbs.Play)) wrong))

pub returns-in_err-scripts-clause-refused : goal.returns-in_err-scripts-clause-refused
returns-in_err-scripts-clause-refused g c =
    hands_on _ _ _ _ c.from_residual-in_err-scripts.ensures.1 c.in_err-scripts.ensures.refused
    (λ wrong. no_value c.args._clock verbs.Play (g.G.Given.words c.args.given.now) (inr (inr (inr (inl wrong)))))

pub returns-in_err-form-clause-refused : goal.returns-in_err-form-clause-refused
returns-in_err-form-clause-refused g c =
    hands_on _ _ _ _ c.from_residual-in_err-form.ensures.1 c.in_err-form.ensures.refused (trace_as_json c.args._clock (g.G.Given.words c.args.given.now))
