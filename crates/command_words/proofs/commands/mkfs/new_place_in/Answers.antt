-- A place in a file is one in a file that exists, at a block whose word is a number.
use Rattle.command_words.proofs.Faults.{hands_on}
use Rattle.command_words.proofs.ExcludedWords.{in_new_file, no_block}
use Rattle.command_words.proofs.commands.mkfs.new_place_in.Goals as goal

pub returns-in_err-not_new-in-Some-clause-refused : goal.returns-in_err-not_new-in-Some-clause-refused
returns-in_err-not_new-in-Some-clause-refused g c =
    hands_on _ _ _ _ c.from_residual.ensures.1 c.in_err-not_new-in-Some.ensures.refused
    (in_new_file (g.G.Given.words c.args.given.now) c.in-Some.word.now c.in-Some.ensures)

pub returns-in_err-at-in-Some-clause-refused : goal.returns-in_err-at-in-Some-clause-refused
returns-in_err-at-in-Some-clause-refused g c =
    hands_on _ _ _ _ c.from_residual-in_err-at-in-Some.ensures.1 c.in_err-at-in-Some.ensures.refused
    (no_block (g.G.Given.words c.args.given.now) c.in-Some.word.now c.in-Some.ensures)
