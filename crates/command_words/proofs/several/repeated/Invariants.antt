use Rattle.std.proofs.Common.{◌≡◌, take, true}
use Rattle.command_words.specs.Invocations.{are_distinct}
use Rattle.command_words.proofs.FileWords.{HoldsNames, texts}
use Rattle.command_words.proofs.several.repeated.Given as goal

-- Invariant: the names so far are distinct, and are in the set.
abbrev pub invariant-loop-name : goal.invariant-loop-name
invariant-loop-name l = record {
  distinct : are_distinct (texts (take l.name-index l.names)) ≡ true;
  seen : HoldsNames l.seen (texts (take l.name-index l.names));
}
