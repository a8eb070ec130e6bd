-- The number is the one in the first word, if any; if it isn't a number, the words aren't valid.
use Rattle.std.proofs.Common.{ℕ, Option, SomeIff, subst}
use Rattle.std.specs.Str.Parse.{digits_value}
use Rattle.command_words.specs.Invocations.{IsNumberIfAny}
use Rattle.command_words.specs.Decimal.{IsNumberUpTo}
use Rattle.command_words.proofs.Moments.{first_number, refused}
use Rattle.command_words.proofs.given.word_or.Goals as goal

pub returns-in-Some-clause-refused : goal.returns-in-Some-clause-refused
returns-in-Some-clause-refused g c =
    let words = g.G.Given.words c.args.given.now c.args.name.now in
    let text = c.in-Some.text.now in
    refused (IsNumberIfAny 65535 words → ⊥) c.word_of.result c.ok_or.result c.wrong.result c.ok_or.ensures.value
    (λ none if_any.
    subst (λ (o : Option ℕ). SomeIff o (IsNumberUpTo 65535 text) (digits_value 10 text)) none c.word_of.ensures
    (first_number 65535 words text c.in-Some.ensures if_any))
