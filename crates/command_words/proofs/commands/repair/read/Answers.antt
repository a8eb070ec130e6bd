-- If a word isn't valid, or a file for the copy is missing, the words of `repair` mean nothing.
use Rattle.std.proofs.Common.{drop, subst, sym}
use Rattle.command_words.proofs.BadLooks.{repair_asked}
use Rattle.command_words.proofs.BadWords.{repair_wrong}
use Rattle.command_words.proofs.ExcludedWords.{copy_missing}
use Rattle.command_words.proofs.Faults.{hands_on}
use Rattle.command_words.proofs.Values.{no_value, volume_wrong}
use Rattle.command_words.specs.BadWords.{IsBadImageGiven}
use Rattle.command_words.specs.Invocations.{AsksFor}
use Rattle.command_words.specs.Verbs.{arguments_of}
use Rattle.command_words.specs.declared.verbs.Verb.TheVariants as verbs
use Rattle.command_words.proofs.commands.repair.read.Goals as goal

pub returns-in_err-volume-clause-refused : goal.returns-in_err-volume-clause-refused
returns-in_err-volume-clause-refused g c =
    hands_on _ _ _ _ c.from_residual.ensures.1 c.in_err-volume.ensures.refused
    (λ wrong. no_value c.args.clock verbs.Repair (g.G.Given.words c.args.given.now) (volume_wrong c.args.clock (g.G.Given.words c.args.given.now) (drop 3 (arguments_of verbs.Repair)) wrong))

pub returns-in_err-repairing-clause-refused : goal.returns-in_err-repairing-clause-refused
returns-in_err-repairing-clause-refused g c =
    hands_on _ _ _ _ c.from_residual-in_err-repairing.ensures.1 c.in_err-repairing.ensures.refused (no_value c.args.clock verbs.Repair (g.G.Given.words c.args.given.now))

pub returns-in_err-copy-clause-refused : goal.returns-in_err-copy-clause-refused
returns-in_err-copy-clause-refused g c =
    hands_on _ _ _ _ c.from_residual-in_err-copy.ensures.1 c.in_err-copy.ensures.refused
    (copy_missing c.args.clock (g.G.Given.words c.args.given.now))

pub returns-in_err-bad-clause-refused : goal.returns-in_err-bad-clause-refused
returns-in_err-bad-clause-refused g c =
    hands_on _ _ _ _ c.from_residual-in_err-bad.ensures.1 c.in_err-bad.ensures.refused (repair_wrong c.args.clock (g.G.Given.words c.args.given.now))

pub returns-clause-read : goal.returns-clause-read
returns-clause-read g c =
    subst (AsksFor c.args.clock verbs.Repair (g.G.Given.words c.args.given.now)) (sym c.repair_at.ensures)
    (repair_asked c.args.clock (g.G.Given.words c.args.given.now) c.in_ok-volume.volume c.in_ok-copy.copy c.in_ok-repairing.repairing c.in_ok-bad.bad
    (c.in_ok-volume.ensures.read, c.in_ok-copy.ensures.read, c.in_ok-repairing.ensures.read)
    (subst (λ cut. IsBadImageGiven (g.G.Given.words c.args.given.now) c.in_ok-volume.volume.edition cut c.in_ok-bad.bad) c.flag_in-is_cut.ensures c.in_ok-bad.ensures.read))
