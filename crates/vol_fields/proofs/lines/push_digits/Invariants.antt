use Rattle.std.proofs.Common.{◌≡◌, ◌∷◌, ◌++◌, take}
use Rattle.std.specs.List.{flat_map}
use Rattle.vol_fields.specs.Lines.{byte_digits}
use Rattle.vol_fields.proofs.lines.push_digits.Given as goal

-- Invariant: the bytes so far have been added.
abbrev pub invariant-loop-byte : goal.invariant-loop-byte
invariant-loop-byte l = l.text.items ≡ l.initial.text.items ++ flat_map (λ c. 32 ∷ byte_digits l.radix c) (take l.byte-index l.bytes)
