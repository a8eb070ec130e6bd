-- Tapes and disks of other systems, by the few bytes that tell them for sure.
use Rattle.std.specs.Prelude.{ℕ, zero, suc, ◌+◌, ◌*◌, ◌%◌, Bool, true, not, ◌&&◌, ◌||◌, ◌==◌, nat_eq, nat_le, nat_lt, if◌then◌else◌, List, codes, length, slice_index, drop, Option, None, Some}
use Rattle.std.specs.List.{starts_with}
use Rattle.pdp_words.specs.Words.{word}
use Rattle.vol_identify.specs.declared.foreign.Foreign.{Foreign}
use Rattle.vol_identify.specs.declared.foreign.Foreign.TheVariants.{Simh, Dump, Tp, Fat, Rt11, Files11}

-- the sum of so many words from a byte on, without what is above 16 bits (PDP-11)
unfoldable pub words_sum : List ℕ → ℕ → ℕ → ℕ
words_sum image at zero = 0
words_sum image at (suc count) = (words_sum image at count + word image (at + 2 * count)) % 65536

-- the number of 32 bits at a byte, the low byte first, is this number below 65536 (SIMH magtape representation)
abbrev pub is_length : List ℕ → ℕ → ℕ → Bool
is_length image at count = (word image at == count) && (word image (at + 2) == 0)

-- true if the first record of a tape in SIMH's format is there: its length, an even one from 512 to 65534, that many bytes, which don't begin with the length again,
-- and the length (SIMH magtape representation)
abbrev pub is_simh : List ℕ → Bool
is_simh image =
    let count = word image 0 in
    nat_le 512 count && ((count % 2 == 0) && (nat_le (count + 8) (length image) && (is_length image 0 count && (is_length image (4 + count) count && not (is_length image 4 count)))))

-- true if the first block is the header of a tape: c_type is TS_TAPE, c_magic is 60011, and its words have the sum 84446 (dump(5), dumprestor.h)
abbrev pub is_dump : List ℕ → Bool
is_dump image = (word image 0 == 1) && ((word image 18 == 60011) && (words_sum image 0 256 == 18910))

-- true if an entry of a tape's directory is empty, or its 32 words have the sum zero (tp(5))
abbrev pub is_entry : List ℕ → ℕ → Bool
is_entry image at = (word image at == 0) || (words_sum image at 32 == 0)

-- true if so many entries from a byte on are empty, or have the sum zero (tp(5))
unfoldable pub are_entries : List ℕ → ℕ → ℕ → Bool
are_entries image at zero = true
are_entries image at (suc count) = are_entries image at count && is_entry image (at + 64 * count)

-- true if the first block of a tape's directory is there: its first entry has a path name that begins with a visible character and ends in a null byte, and
-- each of its 8 entries is empty or has the sum zero (tp(5))
abbrev pub is_tp : List ℕ → Bool
is_tp image =
    nat_lt 0x20 (slice_index image 512)
    && (nat_lt (slice_index image 512) 0x7F && ((slice_index image 543 == 0) && are_entries image 512 8))

-- true if the first block is the boot sector of a volume of FAT: a jump, sectors of 512 bytes, reserved ones, one or two tables, a media descriptor, and the
-- signature (ECMA-107)
abbrev pub is_fat : List ℕ → Bool
is_fat image =
    (((slice_index image 0 == 0xEB) && (slice_index image 2 == 0x90)) || (slice_index image 0 == 0xE9))
    && ((word image 11 == 512) && (nat_le 1 (word image 14) && (((slice_index image 16 == 1) || (slice_index image 16 == 2)) && (nat_le 0xF0 (slice_index image 21)
    && (word image 510 == 0xAA55)))))

-- these bytes are at this place (this project)
unfoldable pub has_text : List ℕ → ℕ → List ℕ → Bool
has_text image at text = starts_with nat_eq (drop at image) text

-- true if the home block of RT-11 is there: its name at octal 760 of block 1 (RT-11 Volume and File Formats Manual)
abbrev pub is_rt11 : List ℕ → Bool
is_rt11 image = has_text image 1008 (codes "DECRT11A")

-- true if the home block of Files-11 is there: its name at octal 760 of block 1, and the sum of its first 255 words after them (Files-11 On-Disk Structure)
abbrev pub is_files11 : List ℕ → Bool
is_files11 image = has_text image 1008 (codes "DECFILE11A") && (words_sum image 512 255 == word image 1022)

-- the tape or the disk of another system, if its tell-tale bytes are there (this project)
unfoldable pub foreign_of : List ℕ → Option Foreign
foreign_of image =
    if is_simh image then Some Simh
    else if is_dump image then Some Dump
    else if is_tp image then Some Tp
    else if is_fat image then Some Fat
    else if is_rt11 image then Some Rt11
    else if is_files11 image then Some Files11
    else None
