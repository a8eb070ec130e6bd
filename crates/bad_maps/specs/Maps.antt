-- Maps of GNU ddrescue: which bytes of a file were read.
use Rattle.std.specs.Prelude.{◌≡◌, ℕ, ◌+◌, ◌==◌, ◌&&◌, nat_le, nat_lt, Bool, if◌then◌else◌, List, [], ◌∷◌, Option, Some, None, Result, Ok, Err, Vec}
use Rattle.std.specs.Global.{Global}
use Rattle.std.specs.List.{list_any, slice_split}
use Rattle.bad_maps.specs.Lines.{is_silent, is_state, range_in}
use Rattle.bad_maps.specs.declared.lines.LineFault.{LineFault}
use Rattle.bad_maps.specs.declared.lines.LineFault.TheVariants as faults
use Rattle.bad_maps.specs.declared.lines.MapLine.{MapLine}
use Rattle.bad_maps.specs.declared.maps.LineStop.{LineStop}
use Rattle.bad_maps.specs.declared.maps.LineStop.TheVariants as stops
use Rattle.bad_maps.specs.declared.maps.MapFault.{MapFault}
use Rattle.bad_maps.specs.declared.maps.MapFault.TheVariants as map_faults
use Rattle.bad_maps.specs.declared.maps.MapFront.{MapFront}
use Rattle.bad_maps.specs.declared.maps.ReadRange.{ReadRange}

-- true if byte n is in a range (this project)
abbrev pub is_within : ℕ → ReadRange → Bool
is_within n range = nat_le range.first n && nat_lt n range.end

-- true if byte n is in one of the ranges (this project)
abbrev pub is_read : List ReadRange → ℕ → Bool
is_read ranges n = list_any (is_within n) ranges

-- true if a range has all of `count` bytes from this one on (this project)
abbrev pub covers : ℕ → ℕ → ReadRange → Bool
covers first count range = nat_le range.first first && nat_le (first + count) range.end

-- true if one of the ranges has all of `count` bytes from this one on (this project)
abbrev pub is_read_from : List ReadRange → ℕ → ℕ → Bool
is_read_from ranges first count = list_any (covers first count) ranges

-- the ranges with one more; it is one with the last range if it begins where that ends (this project)
abbrev pub with_range : List ReadRange → ReadRange → List ReadRange
with_range [] range = range ∷ []
with_range (last ∷ []) range = if last.end == range.first then record { first = last.first; end = range.end } ∷ [] else last ∷ range ∷ []
with_range (first ∷ next ∷ ranges) range = first ∷ with_range (next ∷ ranges) range

-- the ranges with that of a line, if its bytes were read (this project)
abbrev pub with_line : List ReadRange → MapLine → List ReadRange
with_line read line = if line.is_read then with_range read (record { first = line.first; end = line.end }) else read

-- what the lines of a map say so far: the end of the last range, or 0, if ddrescue's own state was met; and the ranges that were read (this project)
abbrev pub Said : Type 0
Said = Option ℕ × List ReadRange

-- what is said with the range of a line, if it doesn't begin before the end of the ranges above (GNU ddrescue, mapfile structure)
abbrev pub with_read_line : List ReadRange → ℕ → Result MapLine LineFault → Result Said LineFault
with_read_line read end (Err fault) = Err fault
with_read_line read end (Ok line) = if nat_lt line.first end then Err faults.Overlap else Ok (Some line.end, with_line read line)

-- what is said with one more line for a range (GNU ddrescue, mapfile structure)
abbrev pub after_range : List ReadRange → ℕ → List ℕ → Result Said LineFault
after_range read end line = with_read_line read end (range_in line)

-- what is said with one more line that isn't silent: ddrescue's own state comes first, and then the ranges (GNU ddrescue, mapfile structure)
abbrev pub after_words : Option ℕ → List ReadRange → List ℕ → Result Said LineFault
after_words None read line = if is_state line then Ok (Some 0, read) else Err faults.State
after_words (Some end) read line = after_range read end line

-- what is said with one more line; empty lines and comments say nothing (GNU ddrescue, mapfile structure)
abbrev pub after_line : Option ℕ → List ReadRange → List ℕ → Result Said LineFault
after_line ended read line = if is_silent line then Ok (ended, read) else after_words ended read line

-- a line that can't be read: its number, from 1, and what is wrong with it (this project)
abbrev pub BadLine : Type 0
BadLine = ℕ × LineFault

-- what follows from a line, or the line if it can't be read (this project)
abbrev pub onward : ℕ → Result Said LineFault → (Option ℕ → List ReadRange → Result (List ReadRange) BadLine) → Result (List ReadRange) BadLine
onward number (Err fault) next = Err (number, fault)
onward number (Ok said) next = next said.0 said.1

-- the ranges that were read, or the first line that can't be; `count` lines were read before these (GNU ddrescue, mapfile structure)
abbrev pub ranges_from : ℕ → Option ℕ → List ReadRange → List (List ℕ) → Result (List ReadRange) BadLine
ranges_from count None read [] = Err (count, faults.Missing)
ranges_from count (Some end) read [] = Ok read
ranges_from count ended read (line ∷ lines) =
    onward (count + 1) (after_line ended read line) (λ ended' read'. ranges_from (count + 1) ended' read' lines)

-- the ranges of the bytes that were read, as a map has them, or the first line that can't be read; a map that ends before ddrescue's own state is a fault
-- of its last line (GNU ddrescue, mapfile structure)
abbrev pub ranges_in : List ℕ → Result (List ReadRange) BadLine
ranges_in text = ranges_from 0 None [] (slice_split (λ b. b == 10) text)

-- the ranges that were read are the expected ones, or the first line that can't be read is this one; out of memory is possible in any case (this
-- project)
abbrev pub ReadsMap : Result (List ReadRange) BadLine → Result (Vec ReadRange Global) MapFault → Type 0
ReadsMap expected (Ok ranges) = expected ≡ Ok ranges.items
ReadsMap expected (Err (map_faults.Line number fault)) = expected ≡ Err (number, fault)
ReadsMap expected (Err map_faults.NoMemory) = Unit {0}

-- what is said with one more line is the expected, or the fault of the line is; out of memory is possible in any case (this project)
abbrev pub Follows : Result Said LineFault → Result MapFront LineStop → Type 0
Follows expected (Ok front) = expected ≡ Ok (front.ended, front.read.items)
Follows expected (Err (stops.Bad fault)) = expected ≡ Err fault
Follows expected (Err stops.NoMemory) = Unit {0}
