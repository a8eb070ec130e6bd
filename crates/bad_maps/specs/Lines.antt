-- The lines of a map.
use Rattle.std.specs.Prelude.{ℕ, ◌+◌, ◌==◌, ◌&&◌, ◌||◌, not, nat_le, Bool, if◌then◌else◌, List, length, slice_index, Option, Some, None, is_some, Result, Ok, Err, codes}
use Rattle.std.specs.Str.{bytes_eq}
use Rattle.bad_maps.specs.Words.{number_of, word_at}
use Rattle.bad_maps.specs.declared.lines.LineFault.{LineFault}
use Rattle.bad_maps.specs.declared.lines.LineFault.TheVariants as faults
use Rattle.bad_maps.specs.declared.lines.MapLine.{MapLine}

-- a fault of a line, in plain words (this project)
abbrev pub fault_text : LineFault → List ℕ
fault_text faults.State = codes "it isn't ddrescue's state: a position, one of ? * / - F G +, and perhaps a pass"
fault_text faults.Missing = codes "the map ends before ddrescue's state"
fault_text faults.Position = codes "the position is no number"
fault_text faults.Size = codes "the size is no number"
fault_text faults.Status = codes "the status is none of ? * / - +"
fault_text faults.More = codes "it has more than three words"
fault_text faults.Far = codes "the range ends past the last byte of any file"
fault_text faults.Overlap = codes "the range begins before the end of the one above"

-- true if a line has no words, or is a comment (GNU ddrescue, mapfile structure)
abbrev pub is_silent : List ℕ → Bool
is_silent line = length (word_at line 0) == 0 || slice_index (word_at line 0) 0 == 35

-- true if a word is the number of a pass, or is missing (GNU ddrescue, mapfile structure)
abbrev pub is_pass : List ℕ → Bool
is_pass word = length word == 0 || is_some (number_of word)

-- true if a word is the status of a range that was read (GNU ddrescue, mapfile structure)
abbrev pub is_read_status : List ℕ → Bool
is_read_status word = bytes_eq word (codes "+")

-- true if a word is the status of a range: finished, not tried, not trimmed, not scraped, or bad (GNU ddrescue, mapfile structure)
abbrev pub is_status : List ℕ → Bool
is_status word =
    is_read_status word || (bytes_eq word (codes "?") || (bytes_eq word (codes "*") || (bytes_eq word (codes "/") || bytes_eq word (codes "-"))))

-- true if a word is the status of ddrescue's work: that of a range, or filling, or generating a map (GNU ddrescue, mapfile structure)
abbrev pub is_state_status : List ℕ → Bool
is_state_status word = is_status word || (bytes_eq word (codes "F") || bytes_eq word (codes "G"))

-- true if a line is ddrescue's own state: a position, a status, and in newer maps a pass (GNU ddrescue, mapfile structure)
abbrev pub is_state : List ℕ → Bool
is_state line =
    is_some (number_of (word_at line 0)) && (is_state_status (word_at line 1) && (is_pass (word_at line 2) && length (word_at line 3) == 0))

-- a number, or the fault if there is none (Option::ok_or)
abbrev pub wanted : {B : Type 0} → Option ℕ → LineFault → (ℕ → Result B LineFault) → Result B LineFault
wanted None fault next = Err fault
wanted (Some number) fault next = next number

-- the range of a line: its position, its size and its status, and no more (GNU ddrescue, mapfile structure)
abbrev pub range_in : List ℕ → Result MapLine LineFault
range_in line =
    wanted (number_of (word_at line 0)) faults.Position (λ first.
    wanted (number_of (word_at line 1)) faults.Size (λ size.
    if not (is_status (word_at line 2)) then Err faults.Status
    else if not (length (word_at line 3) == 0) then Err faults.More
    else if nat_le (first + size) 18446744073709551615 then Ok (record { first = first; end = first + size; is_read = is_read_status (word_at line 2) })
    else Err faults.Far))
