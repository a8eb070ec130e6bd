-- The slots of a directory, 16 bytes each.
use Rattle.std.specs.Prelude.{ℕ, ◌+◌, ◌-◌, ◌==◌, List, ◌++◌, length, slice_range, replicate}
use Rattle.std.specs.List.{before_first}
use Rattle.pdp_words.specs.Words.{word}
use Rattle.vol_layout.specs.declared.slot.Slot.{Slot}

-- the slot at byte `at`: an i-number word, which is 0 if the slot is empty, and 14 bytes of name (manual section 5, directories)
abbrev pub slot_at : List ℕ → ℕ → Slot
slot_at bytes at = record { inode = word bytes at; name = slice_range bytes (at + 2) (at + 16) }

-- the name in a slot: the bytes before the first zero byte (manual section 5, directories)
abbrev pub name_of : List ℕ → List ℕ
name_of bytes = before_first (λ c. c == 0) bytes

-- a name as stored in a slot: padded with zero bytes to 14 bytes (manual section 5, directories)
abbrev pub padded_name : List ℕ → List ℕ
padded_name name = name ++ replicate (14 - length name) 0
