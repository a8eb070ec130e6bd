-- If JSON and a catalogue are asked for, the words of `identify` mean nothing.
use Rattle.command_words.proofs.ExcludedWords.{two_forms}
use Rattle.command_words.proofs.Faults.{hands_on}
use Rattle.command_words.proofs.commands.identify.read.Goals as goal

pub returns-in_err-form-clause-refused : goal.returns-in_err-form-clause-refused
returns-in_err-form-clause-refused g c =
    hands_on _ _ _ _ c.from_residual-in_err-form.ensures.1 c.in_err-form.ensures.refused (two_forms c.args._clock (g.G.Given.words c.args.given.now))
