-- The words of a line of a map.
use Rattle.std.specs.Prelude.{ℕ, ◌==◌, ◌&&◌, nat_lt, if◌then◌else◌, List, [], length, drop, take, get_or, slice_index, Option, None, codes}
use Rattle.std.specs.List.{slice_split}
use Rattle.std.specs.Str.{bytes_eq}
use Rattle.line_words.specs.Numbers.{number_in}
use Rattle.line_words.specs.Pieces.{words_of}

-- the word of a line at a place, counted from 0, or the empty one if there are fewer; words are apart by spaces (GNU ddrescue, mapfile structure)
abbrev pub word_at : List ℕ → ℕ → List ℕ
word_at line k = get_or (words_of (slice_split (λ b. b == 32) line)) k []

-- the number in a word: hexadecimal digits after `0x`, else decimal digits, of which the first is 0 only if it is the only one, as ddrescue reads other
-- numbers with a leading zero as octal; it has at most 64 bits (GNU ddrescue, mapfile structure)
abbrev pub number_of : List ℕ → Option ℕ
number_of word =
    if bytes_eq (take 2 word) (codes "0x") then number_in 16 18446744073709551615 (drop 2 word)
    else if nat_lt 1 (length word) && slice_index word 0 == 48 then None
    else number_in 10 18446744073709551615 word
