use Rattle.std.proofs.Common.{◌≡◌, ◌++◌, take}
use Rattle.std.specs.List.{flat_map}
use Rattle.escaped_text.specs.Escape.{escaped_byte}
use Rattle.escaped_text.proofs.push_escaped.Given as goal

-- Invariant: the bytes so far have been appended.
abbrev pub invariant-loop-byte : goal.invariant-loop-byte
invariant-loop-byte l = l.text.items ≡ l.initial.text.items ++ flat_map escaped_byte (take l.byte-index l.bytes)
