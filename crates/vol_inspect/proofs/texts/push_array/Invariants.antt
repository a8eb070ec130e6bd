use Rattle.std.proofs.Common.{◌≡◌, ◌++◌, get_or}
use Rattle.std.specs.List.{flat_map, range_with_len}
use Rattle.std.specs.String.{string_bytes}
use Rattle.vol_inspect.specs.Texts.{array_item}
use Rattle.vol_inspect.proofs.texts.push_array.Given as goal

-- Invariant: the numbers so far have been added.
abbrev pub invariant-loop-k : goal.invariant-loop-k
invariant-loop-k l = string_bytes l.text ≡ string_bytes l.initial.text
    ++ flat_map (λ k. array_item l.name (get_or l.numbers k 0) k) (range_with_len 0 l.k)
