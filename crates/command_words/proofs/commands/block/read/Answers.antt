use Rattle.std.proofs.Common.{drop, inl, inr, subst, sym}
use Rattle.command_words.proofs.BadLooks.{block_asked}
use Rattle.command_words.proofs.BadWords.{block_wrong}
use Rattle.command_words.proofs.Faults.{hands_on}
use Rattle.command_words.proofs.Values.{no_value, volume_wrong}
use Rattle.command_words.specs.BadWords.{IsBadImageGiven}
use Rattle.command_words.specs.Invocations.{AsksFor}
use Rattle.command_words.specs.Verbs.{arguments_of}
use Rattle.command_words.specs.declared.verbs.Verb.TheVariants as verbs
use Rattle.command_words.proofs.commands.block.read.Goals as goal

pub returns-in_err-volume-clause-refused : goal.returns-in_err-volume-clause-refused
returns-in_err-volume-clause-refused g c =
    hands_on _ _ _ _ c.from_residual.ensures.1 c.in_err-volume.ensures.refused
    (λ wrong. no_value c.args._clock verbs.Block (g.G.Given.words c.args.given.now) (volume_wrong c.args._clock (g.G.Given.words c.args.given.now) (drop 3 (arguments_of verbs.Block)) wrong))

pub returns-in_err-block-clause-refused : goal.returns-in_err-block-clause-refused
returns-in_err-block-clause-refused g c =
    hands_on _ _ _ _ c.from_residual-in_err-block.ensures.1 c.in_err-block.ensures.refused
    (λ wrong. no_value c.args._clock verbs.Block (g.G.Given.words c.args.given.now) (inr (inr (inr (inl wrong)))))

pub returns-in_err-bad-clause-refused : goal.returns-in_err-bad-clause-refused
returns-in_err-bad-clause-refused g c =
    hands_on _ _ _ _ c.from_residual-in_err-bad.ensures.1 c.in_err-bad.ensures.refused (block_wrong c.args._clock (g.G.Given.words c.args.given.now))

pub returns-clause-read : goal.returns-clause-read
returns-clause-read g c =
    subst (AsksFor c.args._clock verbs.Block (g.G.Given.words c.args.given.now)) (sym c.look_at.ensures)
    (block_asked c.args._clock (g.G.Given.words c.args.given.now) c.in_ok-volume.volume c.in_ok-block.block c.form_in-form.result c.in_ok-bad.bad
    c.in_ok-volume.ensures.read c.in_ok-block.ensures.read c.form_in-form.ensures
    (subst (λ cut. IsBadImageGiven (g.G.Given.words c.args.given.now) c.in_ok-volume.volume.edition cut c.in_ok-bad.bad) c.flag_in-cut.ensures c.in_ok-bad.ensures.read))
