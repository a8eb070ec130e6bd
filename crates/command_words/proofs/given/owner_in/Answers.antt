-- The user and the group are those in the first word, if any; if it has none, the words aren't valid.
use Rattle.command_words.proofs.OwnerWords.{no_owner, owner_read, owner_refused}
use Rattle.command_words.proofs.given.owner_in.Goals as goal

pub returns-in-Some-clause-read : goal.returns-in-Some-clause-read
returns-in-Some-clause-read g c = owner_read _ _ _ c.in-Some.ensures c.owner_of_word.ensures.read

pub returns-in-Some-clause-refused : goal.returns-in-Some-clause-refused
returns-in-Some-clause-refused g c = owner_refused _ _ _ c.in-Some.ensures c.owner_of_word.ensures.refused

pub returns-in-None-clause-read : goal.returns-in-None-clause-read
returns-in-None-clause-read g c = no_owner _ c.in-None.ensures
