-- The user and the group are the numbers of the word's two parts; a word without a colon has none.
use Rattle.std.proofs.Common.{arith}
use Rattle.std.proofs.lemmas.Str.Pattern.{split_once_first}
use Rattle.command_words.proofs.OwnerWords.{no_colon, parts_missing, parts_named}
use Rattle.command_words.proofs.owners.owner_of.Goals as goal

pub returns-in-Some-clause-some : goal.returns-in-Some-clause-some
returns-in-Some-clause-some c =
    let cut = rw c.in-Some.is at (split_once_first 58 c.args.text.now c.split_once.result c.split_once.ensures.cases (omega arith)) in
    parts_named c.args.text.now _ _ _ cut.1 cut.2 c.numbers_of.ensures.some

pub returns-in-Some-clause-none : goal.returns-in-Some-clause-none
returns-in-Some-clause-none c =
    let cut = rw c.in-Some.is at (split_once_first 58 c.args.text.now c.split_once.result c.split_once.ensures.cases (omega arith)) in
    parts_missing c.args.text.now _ _ _ cut.1 cut.2 c.numbers_of.ensures.none

pub returns-in-None-clause-none : goal.returns-in-None-clause-none
returns-in-None-clause-none c = λ _.
    no_colon c.args.text.now (rw c.in-None.is at (split_once_first 58 c.args.text.now c.split_once.result c.split_once.ensures.cases (omega arith)))
