-- The words of a line.
use Rattle.std.specs.Prelude.{ℕ, ◌==◌, ◌&&◌, Bool, not, if◌then◌else◌, List, [], ◌∷◌, length, Option, Some, None, Result, Ok, Err, codes}
use Rattle.std.specs.List.{slice_split}
use Rattle.std.specs.Str.{bytes_eq, is_utf8}
use Rattle.disk_sizes.specs.Disks.{disk_blocks}
use Rattle.line_words.specs.Numbers.{number_in}
use Rattle.line_words.specs.Pieces.{words_of}
use Rattle.pdp_words.specs.Steps.{and_then}
use Rattle.vol_layout.specs.declared.edition.Edition.{Edition}
use Rattle.vol_layout.specs.declared.edition.Edition.TheVariants as editions
use Rattle.pack_lists.specs.Paths.{has_byte, is_path}
use Rattle.pack_lists.specs.declared.faults.LineFault.{LineFault}
use Rattle.pack_lists.specs.declared.faults.LineFault.TheVariants as faults
use Rattle.pack_lists.specs.declared.faults.ListFlaw.TheVariants as flaws
use Rattle.pack_lists.specs.declared.faults.ListWord.{ListWord}
use Rattle.pack_lists.specs.declared.members.ListedOwner.{ListedOwner}

-- the words of a line: its parts between spaces, without empty ones (this project)
abbrev pub words_in : List ℕ → List (List ℕ)
words_in line = words_of (slice_split (λ b. b == 32) line)

-- true if bytes can be a word of a line: they aren't empty, and have no space and no newline (this project)
abbrev pub is_list_word : List ℕ → Bool
is_list_word word = not (length word == 0) && (not (has_byte 32 word) && not (has_byte 10 word))

-- a value that was read from a word, with the words after it; or the flaw of this word, if there is none (this project)
abbrev pub valued : {T : Type 0} → ListWord → List ℕ → List (List ℕ) → Option T → Result (T × List (List ℕ)) LineFault
valued form word words None = Err (faults.Flaw (flaws.Word word form))
valued form word words (Some value) = Ok (value, words)

-- the value of the first word, which must have this form, with the words after it (this project)
abbrev pub taken : {T : Type 0} → ListWord → (List ℕ → Option T) → List (List ℕ) → Result (T × List (List ℕ)) LineFault
taken form value [] = Err (faults.Flaw (flaws.Ends form))
taken form value (word ∷ words) = valued form word words (value word)

-- no word is left (this project)
abbrev pub none_left : List (List ℕ) → Result (Unit {0}) LineFault
none_left [] = Ok tt
none_left (word ∷ words) = Err (faults.Flaw (flaws.Extra word))

-- a value, if no word is left (this project)
abbrev pub ended : {T : Type 0} → T → List (List ℕ) → Result T LineFault
ended value words = and_then (none_left words) (λ _. Ok value)

-- the value of the one word that is left, which must have this form; or another value, if there is none (this project)
abbrev pub last_or : {T : Type 0} → ListWord → (List ℕ → Option T) → T → List (List ℕ) → Result T LineFault
last_or form value other [] = Ok other
last_or form value other (word ∷ words) = and_then (valued form word words (value word)) (λ last. ended last.0 last.1)

-- the 32-bit decimal number in a word (this project)
abbrev pub long_in : List ℕ → Option ℕ
long_in word = number_in 10 4294967295 word

-- the 16-bit decimal number in a word (this project)
abbrev pub short_in : List ℕ → Option ℕ
short_in word = number_in 10 65535 word

-- the 8-bit decimal number in a word (this project)
abbrev pub byte_in : List ℕ → Option ℕ
byte_in word = number_in 10 255 word

-- the permissions in a word, an octal number of at most 7777 (this project)
abbrev pub permissions_in : List ℕ → Option ℕ
permissions_in word = number_in 8 4095 word

-- the edition that a word names (this project)
abbrev pub edition_in : List ℕ → Option Edition
edition_in word =
    if bytes_eq word (codes "6") then Some editions.V6
    else if bytes_eq word (codes "7") then Some editions.V7
    else None

-- the number in a word, else the number of blocks of the disk that the word names (this project)
abbrev pub number_or_disk : List ℕ → Option ℕ → Option ℕ
number_or_disk word (Some blocks) = Some blocks
number_or_disk word None = disk_blocks word

-- the number of blocks in a word: a number, or the name of a disk (this project)
abbrev pub blocks_in : List ℕ → Option ℕ
blocks_in word = number_or_disk word (long_in word)

-- the path in a word (this project)
abbrev pub path_in : List ℕ → Option (List ℕ)
path_in word = if is_path word then Some word else None

-- the path of a file outside the volume in a word, which is in UTF-8 (this project)
abbrev pub file_in : List ℕ → Option (List ℕ)
file_in word = if is_utf8 word then Some word else None

-- the group in a word, with this user (this project)
abbrev pub with_group : Option ℕ → Option ℕ → Option ListedOwner
with_group None gid = None
with_group (Some uid) None = None
with_group (Some uid) (Some gid) = Some (record { uid = uid; gid = gid })

-- a user and a group of some parts, if these are two numbers (this project)
abbrev pub owner_of : List (List ℕ) → Option ListedOwner
owner_of (user ∷ group ∷ []) = with_group (short_in user) (short_in group)
owner_of _ = None

-- a user and a group in a word: two numbers with a colon between them (this project)
abbrev pub owner_in : List ℕ → Option ListedOwner
owner_in word = owner_of (slice_split (λ b. b == 58) word)
