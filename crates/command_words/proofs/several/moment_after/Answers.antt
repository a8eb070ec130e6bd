use Rattle.std.proofs.Common.{ℕ, List, arith, subst}
use Rattle.command_words.specs.Moment.{IsMomentOf}
use Rattle.command_words.proofs.FileWords.{last_text}
use Rattle.command_words.proofs.several.moment_after.Goals as goal

pub returns-clause-none : goal.returns-clause-none
returns-clause-none c none now ends =
    c.moment_of.ensures.none none now (subst (λ (t : List ℕ). IsMomentOf t now) (last_text c.args.words.now _ (omega arith)) ends.1)
