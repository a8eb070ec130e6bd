use Rattle.std.proofs.Common.{◌≡◌, ◌++◌, take}
use Rattle.std.specs.List.{flat_map}
use Rattle.std.specs.String.{string_bytes}
use Rattle.identify_lines.specs.ShellWords.{word_byte}
use Rattle.identify_lines.proofs.shell_words.push_escapes.Given as goal

-- Invariant: the bytes so far have been appended.
abbrev pub invariant-bytes : goal.invariant-bytes
invariant-bytes l = string_bytes l.word ≡ string_bytes l.initial.word ++ flat_map word_byte (take l.byte-index l.bytes)
