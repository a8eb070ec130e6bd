use Rattle.std.proofs.Common.{◌≡◌, map, take}
use Rattle.command_words.specs.Invocations.{last_names}
use Rattle.command_words.proofs.several.last_names.Given as goal

-- Invariant: the last names of the paths so far have been added.
abbrev pub invariant-loop-path : goal.invariant-loop-path
invariant-loop-path l = map (λ name. name.now) l.names.items ≡ last_names (map (λ path. path.now) (take l.path-index l.paths))
