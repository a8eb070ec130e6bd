-- If the file for a rescue is the empty word, the words of `serve` aren't valid.
use Rattle.std.proofs.Common.{inl, inr}
use Rattle.command_words.proofs.Faults.{hands_on}
use Rattle.command_words.proofs.commands.serve.read.Goals as goal

pub returns-in_err-rescue-clause-refused : goal.returns-in_err-rescue-clause-refused
returns-in_err-rescue-clause-refused g c =
    hands_on _ _ _ _ c.from_residual-in_err-rescue.ensures.1 c.in_err-rescue.ensures.refused (λ none. inr (inr (inr (inr (inr (inl none))))))
