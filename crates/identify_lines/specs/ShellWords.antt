-- Words of a shell.
use Rattle.std.specs.Prelude.{ℕ, nat_eq, ◌==◌, ◌&&◌, ◌||◌, not, nat_le, Bool, if◌then◌else◌, List, [], ◌++◌, codes, length}
use Rattle.std.specs.Char.{encode_utf8, is_control}
use Rattle.std.specs.List.{flat_map, list_any, starts_with}
use Rattle.std.specs.Str.{chars}
use Rattle.escaped_text.specs.Escape.{escaped_byte}

-- true if a shell may not take a byte as it is: it is no letter, no digit, and none of + , - . / : @ _ (sh)
abbrev pub is_special : ℕ → Bool
is_special b = not ((nat_le 97 b && nat_le b 122) || ((nat_le 64 b && nat_le b 90) || ((nat_le 43 b && nat_le b 58) || (b == 95))))

-- a character between quotes: a quote ends them, is written behind a backslash, and begins them again (sh)
abbrev pub quoted_char : ℕ → List ℕ
quoted_char c = if c == 39 then codes "'\\''" else encode_utf8 c

-- a text between quotes (sh)
abbrev pub quoted : List ℕ → List ℕ
quoted text = codes "'" ++ (flat_map quoted_char (chars text) ++ codes "'")

-- a byte where a shell reads escapes: a quote has a backslash before it, and what a terminal can't show is a backslash and octal digits (POSIX, 2.2.4)
abbrev pub word_byte : ℕ → List ℕ
word_byte b = if b == 39 then codes "\\'" else escaped_byte b

-- bytes as one word of a shell that a terminal can show (POSIX, 2.2.4)
abbrev pub escaped_word : List ℕ → List ℕ
escaped_word bytes = codes "$'" ++ (flat_map word_byte bytes ++ codes "'")

-- a text as one word of a shell: with escapes if it has control characters; else as it is if the shell leaves it so, otherwise between quotes (sh)
unfoldable pub shell_word : List ℕ → List ℕ
shell_word text = if list_any is_control (chars text) then escaped_word text else if (length text == 0) || list_any is_special text then quoted text else text

-- a path that can be no option: one that begins with a hyphen gets ./ before it (getopt)
abbrev pub path_word : List ℕ → List ℕ
path_word path = if starts_with nat_eq path (codes "-") then codes "./" ++ path else path

-- the path of a file as one word of a shell, which is no option (sh)
abbrev pub file_word : List ℕ → List ℕ
file_word path = shell_word (path_word path)
