use Rattle.std.proofs.Common.{drop, subst, sym}
use Rattle.command_words.proofs.BadLooks.{check_asked}
use Rattle.command_words.proofs.BadWords.{check_wrong}
use Rattle.command_words.proofs.Faults.{hands_on}
use Rattle.command_words.proofs.Values.{no_value, volume_wrong}
use Rattle.command_words.specs.BadWords.{IsBadImageGiven}
use Rattle.command_words.specs.Invocations.{AsksFor}
use Rattle.command_words.specs.Verbs.{arguments_of}
use Rattle.command_words.specs.declared.verbs.Verb.TheVariants as verbs
use Rattle.command_words.proofs.commands.check.read.Goals as goal

pub returns-in_err-volume-clause-refused : goal.returns-in_err-volume-clause-refused
returns-in_err-volume-clause-refused g c =
    hands_on _ _ _ _ c.from_residual.ensures.1 c.in_err-volume.ensures.refused
    (λ wrong. no_value c.args._clock verbs.Check (g.G.Given.words c.args.given.now) (volume_wrong c.args._clock (g.G.Given.words c.args.given.now) (drop 3 (arguments_of verbs.Check)) wrong))

pub returns-in_err-bad-clause-refused : goal.returns-in_err-bad-clause-refused
returns-in_err-bad-clause-refused g c =
    hands_on _ _ _ _ c.from_residual-in_err-bad.ensures.1 c.in_err-bad.ensures.refused (check_wrong c.args._clock (g.G.Given.words c.args.given.now))

pub returns-clause-read : goal.returns-clause-read
returns-clause-read g c =
    subst (AsksFor c.args._clock verbs.Check (g.G.Given.words c.args.given.now)) (sym c.look_at.ensures)
    (check_asked c.args._clock (g.G.Given.words c.args.given.now) c.in_ok-volume.volume c.flag_in.result c.form_in.result c.in_ok-bad.bad
    c.in_ok-volume.ensures.read c.flag_in.ensures c.form_in.ensures
    (subst (λ cut. IsBadImageGiven (g.G.Given.words c.args.given.now) c.in_ok-volume.volume.edition cut c.in_ok-bad.bad) c.flag_in-cut.ensures c.in_ok-bad.ensures.read))
