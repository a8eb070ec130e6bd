use Rattle.std.proofs.Common.{◌≡◌, ◌++◌, take}
use Rattle.std.specs.List.{flat_map}
use Rattle.std.specs.String.{string_bytes}
use Rattle.identify_lines.specs.ShellWords.{quoted_char}
use Rattle.identify_lines.proofs.shell_words.push_quoted.Given as goal

-- Invariant: the characters so far have been appended.
abbrev pub invariant-characters : goal.invariant-characters
invariant-characters l =
    string_bytes l.word ≡ string_bytes l.initial.word ++ flat_map quoted_char (take l.character-index l.characters)
