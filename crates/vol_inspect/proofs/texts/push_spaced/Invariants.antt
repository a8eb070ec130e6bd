use Rattle.std.proofs.Common.{◌≡◌, ◌++◌, ◌∷◌, take}
use Rattle.std.specs.Fmt.{decimal}
use Rattle.std.specs.List.{flat_map}
use Rattle.std.specs.String.{string_bytes}
use Rattle.vol_inspect.proofs.texts.push_spaced.Given as goal

-- Invariant: the numbers so far have been added.
abbrev pub invariant-loop-number : goal.invariant-loop-number
invariant-loop-number l = string_bytes l.text ≡ string_bytes l.initial.text ++ flat_map (λ n. 32 ∷ decimal n) (take l.number-index l.numbers)
