use Rattle.std.proofs.Common.{◌≡◌, ◌++◌, map, take}
use Rattle.vol_fields.specs.Values.{character}
use Rattle.vol_fields.proofs.values.push_characters.Given as goal

-- Invariant: the bytes so far have been added.
abbrev pub invariant-loop-byte : goal.invariant-loop-byte
invariant-loop-byte l = l.text.items ≡ l.initial.text.items ++ map character (take l.byte-index l.bytes)
