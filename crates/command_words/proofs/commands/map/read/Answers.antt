-- If a picture for a browser is asked for as JSON, or one file's blocks of an image of which blocks are lost, the words of `map` mean nothing.
use Rattle.std.proofs.Common.{◌∙◌, drop, subst, sym}
use Rattle.command_words.proofs.BadLooks.{file_asked, map_asked, uses_asked}
use Rattle.command_words.proofs.BadWords.{map_wrong}
use Rattle.command_words.proofs.PictureWords.{file_as_json, file_lost, picture_as_json}
use Rattle.command_words.proofs.Faults.{hands_on}
use Rattle.command_words.proofs.Values.{no_value, volume_wrong}
use Rattle.command_words.specs.BadWords.{IsBadImageGiven}
use Rattle.command_words.specs.Invocations.{AsksFor}
use Rattle.command_words.specs.Verbs.{arguments_of}
use Rattle.command_words.specs.declared.verbs.Verb.TheVariants as verbs
use Rattle.command_words.proofs.commands.map.read.Goals as goal

pub returns-in_err-volume-clause-refused : goal.returns-in_err-volume-clause-refused
returns-in_err-volume-clause-refused g c =
    hands_on _ _ _ _ c.from_residual.ensures.1 c.in_err-volume.ensures.refused
    (λ wrong. no_value c.args._clock verbs.Map (g.G.Given.words c.args.given.now) (volume_wrong c.args._clock (g.G.Given.words c.args.given.now) (drop 3 (arguments_of verbs.Map)) wrong))

pub returns-in_err-bad-clause-refused : goal.returns-in_err-bad-clause-refused
returns-in_err-bad-clause-refused g c =
    hands_on _ _ _ _ c.from_residual-in_err-bad.ensures.1 c.in_err-bad.ensures.refused (map_wrong c.args._clock (g.G.Given.words c.args.given.now))

pub returns-in_err-no_svg-clause-refused : goal.returns-in_err-no_svg-clause-refused
returns-in_err-no_svg-clause-refused g c =
    hands_on _ _ _ _ c.from_residual-in_err-no_svg.ensures.1 c.in_err-no_svg.ensures.refused
    (picture_as_json c.args._clock (g.G.Given.words c.args.given.now) (sym c.flag_in.ensures ∙ c.if-flag_in.true))

pub returns-in_err-no_file-clause-refused : goal.returns-in_err-no_file-clause-refused
returns-in_err-no_file-clause-refused g c =
    hands_on _ _ _ _ c.from_residual-in_err-no_file.ensures.1 c.in_err-no_file.ensures.refused
    (file_as_json c.args._clock (g.G.Given.words c.args.given.now) (sym c.flag_in.ensures ∙ c.if-flag_in.true))

pub returns-in_err-no_losses-in-Some-clause-refused : goal.returns-in_err-no_losses-in-Some-clause-refused
returns-in_err-no_losses-in-Some-clause-refused g c =
    hands_on _ _ _ _ c.from_residual-in_err-no_losses-in-Some.ensures.1 c.in_err-no_losses-in-Some.ensures.refused
    (file_lost c.args._clock (g.G.Given.words c.args.given.now) c.in_ok-volume.volume.edition c.in_ok-bad.bad
    (λ none. let there = c.in-Some.ensures ∙ none in absurd (cc))
    (subst (λ cut. IsBadImageGiven (g.G.Given.words c.args.given.now) c.in_ok-volume.volume.edition cut c.in_ok-bad.bad) c.flag_in-cut.ensures c.in_ok-bad.ensures.read))

pub returns-then-flag_in-clause-read : goal.returns-then-flag_in-clause-read
returns-then-flag_in-clause-read g c =
    subst (AsksFor c.args._clock verbs.Map (g.G.Given.words c.args.given.now)) (sym c.look_at.ensures)
    (uses_asked c.args._clock (g.G.Given.words c.args.given.now) c.in_ok-volume.volume c.in_ok-bad.bad c.in_ok-volume.ensures.read
    (sym c.flag_in.ensures ∙ c.if-flag_in.true) c.in_ok-no_svg.ensures.none c.in_ok-no_file.ensures.none
    (subst (λ cut. IsBadImageGiven (g.G.Given.words c.args.given.now) c.in_ok-volume.volume.edition cut c.in_ok-bad.bad) c.flag_in-cut.ensures c.in_ok-bad.ensures.read))

pub returns-in-None-clause-read : goal.returns-in-None-clause-read
returns-in-None-clause-read g c =
    subst (AsksFor c.args._clock verbs.Map (g.G.Given.words c.args.given.now)) (sym c.look_at-in-None.ensures)
    (map_asked c.args._clock (g.G.Given.words c.args.given.now) c.in_ok-volume.volume c.picture_in-picture.result c.in_ok-bad.bad c.in_ok-volume.ensures.read
    c.picture_in-picture.ensures (sym c.flag_in.ensures ∙ c.if-flag_in.false)
    c.in-None.ensures
    (subst (λ cut. IsBadImageGiven (g.G.Given.words c.args.given.now) c.in_ok-volume.volume.edition cut c.in_ok-bad.bad) c.flag_in-cut.ensures c.in_ok-bad.ensures.read))
