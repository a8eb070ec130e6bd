-- If the first word, if any, is a time, it is the time to use; if it isn't one, there is no time.
use Rattle.std.proofs.Common.{ℕ, codes}
use Rattle.command_words.specs.Invocations.{IsMomentGiven}
use Rattle.command_words.proofs.Moments.{refused, written}
use Rattle.command_words.proofs.given.moment_in.Goals as goal

pub returns-in-Some-clause-refused : goal.returns-in-Some-clause-refused
returns-in-Some-clause-refused g c =
    let words = g.G.Given.words c.args.given.now (codes "NOW") in
    refused (((now : ℕ) × IsMomentGiven c.args.clock words now) → ⊥) c.moment_of.result c.ok_or.result c.wrong.result c.ok_or.ensures.value
    (λ none meant. c.moment_of.ensures.none none meant.0 (written c.args.clock words c.in-Some.text.now c.in-Some.ensures meant.0 meant.1))
