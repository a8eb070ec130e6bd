-- If one of the two paths is the empty word, the words of `ln` aren't valid.
use Rattle.std.proofs.Common.{inl, inr}
use Rattle.command_words.proofs.Faults.{hands_on}
use Rattle.command_words.proofs.commands.ln.read.Goals as goal

pub returns-in_err-from-clause-refused : goal.returns-in_err-from-clause-refused
returns-in_err-from-clause-refused g c =
    hands_on _ _ _ _ c.from_residual-in_err-from.ensures.1 c.in_err-from.ensures.refused (λ none. inr (inr (inr (inl none))))

pub returns-in_err-to-clause-refused : goal.returns-in_err-to-clause-refused
returns-in_err-to-clause-refused g c =
    hands_on _ _ _ _ c.from_residual-in_err-to.ensures.1 c.in_err-to.ensures.refused (λ none. inr (inr (inr (inr (inl none)))))
