use Rattle.std.proofs.Common.{drop, subst, sym}
use Rattle.command_words.proofs.BadLooks.{get_asked}
use Rattle.command_words.proofs.BadWords.{get_wrong}
use Rattle.command_words.proofs.Copies.{bad_got, empty_output, into_nothing, no_paths, too_many_got, unsound_got}
use Rattle.command_words.proofs.Faults.{hands_on}
use Rattle.command_words.proofs.Values.{no_value, volume_wrong}
use Rattle.command_words.specs.BadWords.{IsBadImageGiven}
use Rattle.command_words.specs.Invocations.{AsksFor}
use Rattle.command_words.specs.Verbs.{arguments_of}
use Rattle.command_words.specs.declared.verbs.Verb.TheVariants as verbs
use Rattle.command_words.proofs.commands.get.read.Goals as goal

pub returns-in_err-volume-clause-refused : goal.returns-in_err-volume-clause-refused
returns-in_err-volume-clause-refused g c =
    hands_on _ _ _ _ c.from_residual.ensures.1 c.in_err-volume.ensures.refused
    (λ wrong. no_value c.args._clock verbs.Get (g.G.Given.words c.args.given.now) (volume_wrong c.args._clock (g.G.Given.words c.args.given.now) (drop 3 (arguments_of verbs.Get)) wrong))

pub returns-in_err-paths-in-Some-clause-refused : goal.returns-in_err-paths-in-Some-clause-refused
returns-in_err-paths-in-Some-clause-refused g c =
    hands_on _ _ _ _ c.from_residual-in_err-paths-in-Some.ensures.1 c.in_err-paths-in-Some.ensures.refused
    (no_paths c.args._clock (g.G.Given.words c.args.given.now) c.in-Some.folder.now (sym c.in-Some.ensures))

pub returns-in_err-no_more-in-None-clause-refused : goal.returns-in_err-no_more-in-None-clause-refused
returns-in_err-no_more-in-None-clause-refused g c =
    hands_on _ _ _ _ c.from_residual-in_err-no_more-in-None.ensures.1 c.in_err-no_more-in-None.ensures.refused
    (too_many_got c.args._clock (g.G.Given.words c.args.given.now) (sym c.in-None.ensures))

pub returns-in_err-not_empty-in-Some-clause-refused : goal.returns-in_err-not_empty-in-Some-clause-refused
returns-in_err-not_empty-in-Some-clause-refused g c =
    hands_on _ _ _ _ c.from_residual-in_err-not_empty-in-Some.ensures.1 c.in_err-not_empty-in-Some.ensures.refused
    (empty_output c.args._clock (g.G.Given.words c.args.given.now) c.in-Some.folder.now (sym c.in-Some.ensures))

pub returns-in_err-folder_unused-in-None-clause-refused : goal.returns-in_err-folder_unused-in-None-clause-refused
returns-in_err-folder_unused-in-None-clause-refused g c =
    hands_on _ _ _ _ c.from_residual-in_err-folder_unused-in-None.ensures.1 c.in_err-folder_unused-in-None.ensures.refused
    (into_nothing c.args._clock (g.G.Given.words c.args.given.now) (sym c.in-None.ensures))

pub returns-in_err-not_unsound-in-Some-clause-refused : goal.returns-in_err-not_unsound-in-Some-clause-refused
returns-in_err-not_unsound-in-Some-clause-refused g c =
    hands_on _ _ _ _ c.from_residual-in_err-not_unsound-in-Some.ensures.1 c.in_err-not_unsound-in-Some.ensures.refused
    (unsound_got c.args._clock (g.G.Given.words c.args.given.now) c.in-Some.folder.now (sym c.in-Some.ensures))

pub returns-in_err-bad-clause-refused : goal.returns-in_err-bad-clause-refused
returns-in_err-bad-clause-refused g c =
    hands_on _ _ _ _ c.from_residual-in_err-bad.ensures.1 c.in_err-bad.ensures.refused (get_wrong c.args._clock (g.G.Given.words c.args.given.now))

pub returns-in_err-not_bad-in-Some-clause-refused : goal.returns-in_err-not_bad-in-Some-clause-refused
returns-in_err-not_bad-in-Some-clause-refused g c =
    hands_on _ _ _ _ c.from_residual-in_err-not_bad-in-Some.ensures.1 c.in_err-not_bad-in-Some.ensures.refused
    (bad_got c.args._clock (g.G.Given.words c.args.given.now) c.in-Some.folder.now c.in_ok-volume.volume.edition c.in_ok-bad.bad (sym c.in-Some.ensures)
    (subst (λ cut. IsBadImageGiven (g.G.Given.words c.args.given.now) c.in_ok-volume.volume.edition cut c.in_ok-bad.bad) c.flag_in-cut.ensures c.in_ok-bad.ensures.read))

pub returns-clause-read : goal.returns-clause-read
returns-clause-read g c =
    subst (AsksFor c.args._clock verbs.Get (g.G.Given.words c.args.given.now)) (sym c.look_at.ensures)
    (get_asked c.args._clock (g.G.Given.words c.args.given.now) c.in_ok-volume.volume c.text_in-path.result c.flag_in-damaged.result c.in_ok-bad.bad
    c.in_ok-volume.ensures.read (
      c.text_in-path.ensures,
      c.in_ok-no_more-in-None.ensures.none,
      sym c.in-None.ensures,
      c.in_ok-folder_unused-in-None.ensures.preserve,
      c.in_ok-folder_unused-in-None.ensures.recursive,
    )
    c.flag_in-damaged.ensures (c.is_plain.ensures.other c.if-is_plain.false)
    (subst (λ cut. IsBadImageGiven (g.G.Given.words c.args.given.now) c.in_ok-volume.volume.edition cut c.in_ok-bad.bad) c.flag_in-cut.ensures c.in_ok-bad.ensures.read))
