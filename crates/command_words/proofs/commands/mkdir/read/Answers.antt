-- If the path is the empty word, the words of `mkdir` aren't valid.
use Rattle.std.proofs.Common.{inl, inr}
use Rattle.command_words.proofs.Faults.{hands_on}
use Rattle.command_words.proofs.commands.mkdir.read.Goals as goal

pub returns-in_err-path-clause-refused : goal.returns-in_err-path-clause-refused
returns-in_err-path-clause-refused g c =
    hands_on _ _ _ _ c.from_residual-in_err-path.ensures.1 c.in_err-path.ensures.refused (λ none. inr (inr (inr (inl none))))
