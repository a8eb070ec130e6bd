use Rattle.std.proofs.Common.{◌≡◌, ◌++◌, ◌∷◌, take}
use Rattle.std.specs.List.{flat_map}
use Rattle.pack_lists.proofs.texts.push_words.Given as goal

-- Invariant: the words so far are appended.
abbrev pub invariant-words : goal.invariant-words
invariant-words l = l.text.items ≡ l.fn.text.items ++ flat_map (λ word. 32 ∷ word.now) (take l.word-index l.words)
