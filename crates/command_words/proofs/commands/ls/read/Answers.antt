-- If blocks are lost, the words of `ls` mean what they say of them; if the directories below are to be listed in a volume that need not be sound, nothing.
use Rattle.std.proofs.Common.{drop, sym, subst, ◌∙◌}
use Rattle.command_words.proofs.BadLooks.{list_asked}
use Rattle.command_words.proofs.BadWords.{ls_wrong}
use Rattle.command_words.proofs.Faults.{hands_on}
use Rattle.command_words.proofs.UnsoundWords.{bad_slots, below_unsound}
use Rattle.command_words.proofs.Values.{no_value, volume_wrong}
use Rattle.command_words.specs.BadWords.{IsBadImageGiven}
use Rattle.command_words.specs.Invocations.{AsksFor}
use Rattle.command_words.specs.Verbs.{arguments_of}
use Rattle.command_words.specs.declared.verbs.Verb.TheVariants as verbs
use Rattle.command_words.proofs.commands.ls.read.Goals as goal

pub returns-in_err-volume-clause-refused : goal.returns-in_err-volume-clause-refused
returns-in_err-volume-clause-refused g c =
    hands_on _ _ _ _ c.from_residual.ensures.1 c.in_err-volume.ensures.refused
    (λ wrong. no_value c.args._clock verbs.Ls (g.G.Given.words c.args.given.now) (volume_wrong c.args._clock (g.G.Given.words c.args.given.now) (drop 3 (arguments_of verbs.Ls)) wrong))

pub returns-in_err-bad-clause-refused : goal.returns-in_err-bad-clause-refused
returns-in_err-bad-clause-refused g c =
    hands_on _ _ _ _ c.from_residual-in_err-bad.ensures.1 c.in_err-bad.ensures.refused (ls_wrong c.args._clock (g.G.Given.words c.args.given.now))

pub returns-in_err-no_slots-clause-refused : goal.returns-in_err-no_slots-clause-refused
returns-in_err-no_slots-clause-refused g c =
    hands_on _ _ _ _ c.from_residual-in_err-no_slots.ensures.1 c.in_err-no_slots.ensures.refused
    (bad_slots c.args._clock (g.G.Given.words c.args.given.now) c.in_ok-volume.volume.edition c.in_ok-bad.bad (sym c.flag_in.ensures ∙ c.if-flag_in.true)
    (subst (λ cut. IsBadImageGiven (g.G.Given.words c.args.given.now) c.in_ok-volume.volume.edition cut c.in_ok-bad.bad) c.flag_in-cut.ensures c.in_ok-bad.ensures.read))

pub returns-in_err-listing-clause-refused : goal.returns-in_err-listing-clause-refused
returns-in_err-listing-clause-refused g c =
    hands_on _ _ _ _ c.from_residual-in_err-listing.ensures.1 c.in_err-listing.ensures.refused
    (λ wrong. below_unsound c.args._clock (g.G.Given.words c.args.given.now) c.in_ok-volume.volume.edition c.in_ok-bad.bad wrong.0
    (sym c.flag_in.ensures ∙ c.if-flag_in.false)
    (subst (λ cut. IsBadImageGiven (g.G.Given.words c.args.given.now) c.in_ok-volume.volume.edition cut c.in_ok-bad.bad) c.flag_in-cut.ensures c.in_ok-bad.ensures.read)
    (c.is_plain.ensures.other c.if-is_plain.false) wrong.1 wrong.2)

pub returns-clause-read : goal.returns-clause-read
returns-clause-read g c =
    subst (AsksFor c.args._clock verbs.Ls (g.G.Given.words c.args.given.now)) (sym c.look_at.ensures)
    (list_asked c.args._clock (g.G.Given.words c.args.given.now) c.in_ok-volume.volume c.text_in-path.result c.in_ok-listing.listing c.in_ok-bad.bad
    c.in_ok-volume.ensures.read c.text_in-path.ensures c.in_ok-listing.ensures.lines c.in_ok-listing.ensures.depth c.in_ok-listing.ensures.level
    (sym c.flag_in.ensures ∙ c.if-flag_in.false) (c.is_plain.ensures.other c.if-is_plain.false)
    (subst (λ cut. IsBadImageGiven (g.G.Given.words c.args.given.now) c.in_ok-volume.volume.edition cut c.in_ok-bad.bad) c.flag_in-cut.ensures c.in_ok-bad.ensures.read))
