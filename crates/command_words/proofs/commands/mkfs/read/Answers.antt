-- If the numbers or the place of a new volume aren't valid, the words of `mkfs` mean nothing.
use Rattle.command_words.proofs.Faults.{hands_on}
use Rattle.command_words.proofs.ExcludedWords.{place_wrong}
use Rattle.command_words.proofs.Values.{no_value}
use Rattle.command_words.specs.declared.verbs.Verb.TheVariants as verbs
use Rattle.command_words.proofs.commands.mkfs.read.Goals as goal

pub returns-in_err-volume-clause-refused : goal.returns-in_err-volume-clause-refused
returns-in_err-volume-clause-refused g c =
    hands_on _ _ _ _ c.from_residual.ensures.1 c.in_err-volume.ensures.refused (no_value c.args.clock verbs.Mkfs (g.G.Given.words c.args.given.now))

pub returns-in_err-place-clause-refused : goal.returns-in_err-place-clause-refused
returns-in_err-place-clause-refused g c =
    hands_on _ _ _ _ c.from_residual-in_err-place.ensures.1 c.in_err-place.ensures.refused (place_wrong c.args.clock (g.G.Given.words c.args.given.now))
