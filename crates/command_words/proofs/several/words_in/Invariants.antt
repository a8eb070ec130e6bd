use Rattle.std.proofs.Common.{◌≡◌, flat_map, map, take}
use Rattle.command_words.proofs.several.words_in.Given as goal

-- Invariant: the words for the arguments so far have been added.
abbrev pub invariant-loop-name : goal.invariant-loop-name
invariant-loop-name g l =
    map (λ word. word.now) l.words.items ≡ flat_map (g.G.Given.words l.given) (map (λ name. name.now) (take l.name-index l.names))
