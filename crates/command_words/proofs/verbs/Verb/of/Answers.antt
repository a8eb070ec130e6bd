-- The search compared all commands, and none has this name.
use Rattle.std.proofs.Common.{◌≢◌, ℕ, List, arith, length, rules}
use Rattle.std.specs.List.{AllWithin}
use Rattle.std.proofs.lemmas.Option.{MatchOption-at_none}
use Rattle.std.proofs.lemmas.Iterator.{YieldsList-from_slice, first_from_find}
use Rattle.std.proofs.lemmas.Iterator.Consumers.{YieldsList-at, YieldsList-from_copied}
use borrow.Author.Tests.{tests}
use Rattle.command_words.specs.Verbs.{all_verbs, verb_name}
use Rattle.command_words.proofs.Names.{place_in}
use Rattle.command_words.specs.declared.verbs.Verb.{Verb}
use Rattle.command_words.specs.declared.verbs.Verb.TheVariants as verbs
use Rattle.command_words.proofs.verbs.Verb.of.Goals as goal

-- a property of each command in the list is one of each command: each has a place in the list, and this computes for each command
each : (text : List ℕ) → AllWithin (λ (verb : Verb). text ≢ verb_name verb) all_verbs 0 (length all_verbs) → (verb : Verb) → text ≢ verb_name verb
each text none verbs.Cat = none 0 verbs.Cat (omega arith) (omega arith)
each text none verb = none (place_in (verb_name verb) all_verbs) verbs.Cat (omega arith) (omega arith)

pub returns-clause-none : goal.returns-clause-none
returns-clause-none c none =
    let chain = YieldsList-from_copied (YieldsList-at c.copied.ensures.source (YieldsList-from_slice all_verbs c.iter.ensures.rest)) in
    let found = first_from_find _ _ c.find.result (λ verb. Unit {0}) (λ verb. c.args.name.now ≢ verb_name verb) c.find.ensures.ran chain (λ x q k. tt) (λ x q k. search (rules, tests)) in
    each c.args.name.now (MatchOption-at_none _ _ none found)
