-- What a file seems to be, as lines.
use Rattle.std.specs.Prelude.{ℕ, ◌&&◌, ◌/◌, ◌%◌, ◌==◌, nat_le, Bool, if◌then◌else◌, List, [], ◌++◌, Option, None, Some, codes, decimal}
use Rattle.vol_identify.specs.Guesses.{is_open}
use Rattle.vol_identify.specs.PackTexts.{pack_lines}
use Rattle.vol_identify.specs.Texts.{identified_text}
use Rattle.vol_identify.specs.declared.guess.Guess.{Guess}
use Rattle.vol_identify.specs.declared.guess.Guess.TheVariants.{Volume}
use Rattle.vol_identify.specs.declared.guess.Identified.{Identified}
use Rattle.identify_lines.specs.ShellWords.{file_word}
use Rattle.identify_lines.specs.ShownPath.{shown_path}
use Rattle.identify_lines.specs.declared.seen.Seen.{Seen}
use Rattle.identify_lines.specs.declared.seen.Seen.TheVariants.{Pack, Image}

-- true if a guess by so many bytes could be changed by bytes after them, which weren't read (this project)
unfoldable pub is_cut : Guess → ℕ → Bool
is_cut guess bytes = is_open guess && nat_le 268435456 bytes

-- the end of an image's line: the number of bytes that the guess is by, if others could change it (this project)
abbrev pub line_end : Guess → ℕ → List ℕ
line_end guess bytes = if is_cut guess bytes then codes ", by its first " ++ (decimal bytes ++ codes " bytes\n") else codes "\n"

-- the line of an image: its path as a terminal can show it, and the words for what its front looks like (this project)
abbrev pub identified_line : List ℕ → Identified → ℕ → List ℕ
identified_line path found bytes = shown_path path ++ (codes ": " ++ (identified_text found.guess found.broken ++ line_end found.guess bytes))

-- the words for bytes that are no whole block (this project)
abbrev pub follow_text : ℕ → List ℕ
follow_text n = if n == 1 then codes "1 byte follows" else decimal n ++ codes " bytes follow"

-- the line of the bytes after the last whole block of a file of this size, if there are any (this project)
abbrev pub tail_line : ℕ → List ℕ
tail_line size =
    if size % 512 == 0 then [] else codes "  at " ++ (decimal (size / 512) ++ (codes ": " ++ (follow_text (size % 512) ++ codes "\n")))

-- the line of the bytes after the last whole block of a file, if its size is known (this project)
abbrev pub tail_lines : Option ℕ → List ℕ
tail_lines None = []
tail_lines (Some size) = tail_line size

-- the line of the bytes after the last whole block of an image with this guess, if it is a whole volume (this project)
abbrev pub image_tail : Guess → Option ℕ → List ℕ
image_tail (Volume volume) size = tail_lines size
image_tail _ size = []

-- the lines of what the file at a path seems to be, whose size may be known: those of a pack, or the line of an image, and a line for the bytes after the
-- last whole block (this project)
abbrev pub seen_lines : List ℕ → Option ℕ → Seen → List ℕ
seen_lines path size (Pack parts) = pack_lines (shown_path path) (file_word path) parts.items ++ tail_lines size
seen_lines path size (Image found read) = identified_line path found read ++ image_tail found.guess size
