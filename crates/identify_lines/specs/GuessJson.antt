-- What a file seems to be, as JSON.
use Rattle.std.specs.Prelude.{ℕ, ◌%◌, ◌==◌, Bool, if◌then◌else◌, List, [], ◌∷◌, ◌++◌, codes, map, Option, None, Some}
use Rattle.std.specs.Option.{is_none}
use Rattle.serde_json.specs.Data.{Data, null, boolean, string, array, object, member, no_members}
use Rattle.serde_json.specs.View.{items_of}
use Rattle.serde_json.specs.Written.{compact_text}
use Rattle.vol_findings.specs.Reports.{edition_number}
use Rattle.vol_identify.specs.PackTexts.{command_text}
use Rattle.vol_identify.specs.Texts.{packing_text}
use Rattle.vol_identify.specs.declared.foreign.Foreign as foreigns
use Rattle.vol_identify.specs.declared.foreign.Foreign.TheVariants.{Simh, Dump, Tp, Fat, Rt11, Files11}
use Rattle.vol_identify.specs.declared.front.FoundVolume.{FoundVolume}
use Rattle.vol_identify.specs.declared.guess.Guess.{Guess}
use Rattle.vol_identify.specs.declared.guess.Guess.TheVariants.{Empty, Packed, Tar, Volume, Swapped, Ext2, CutOff, Foreign, Inside, Unknown}
use Rattle.vol_identify.specs.declared.pack_scan.Part.{Part}
use Rattle.vol_identify.specs.declared.pack_scan.Part.TheVariants as parts
use Rattle.vol_identify.specs.declared.pack_texts.JudgedPart.{JudgedPart}
use Rattle.vol_listing.specs.Json.{count}
use Rattle.identify_lines.specs.ShellWords.{file_word}
use Rattle.identify_lines.specs.declared.seen.Seen.{Seen}
use Rattle.identify_lines.specs.declared.seen.Seen.TheVariants as seens

-- a number, or null if there is none (RFC 8259)
abbrev pub count_or_null : Option ℕ → Data
count_or_null None = null
count_or_null (Some n) = count n

-- the command to go on with: `ls` if the volume is sound, else `check` (this project)
abbrev pub next_command : Option ℕ → List ℕ
next_command None = codes "ls"
next_command (Some rule) = codes "check"

-- the command to go on with for a judged volume of the file at a path, which is one word of a shell (this project)
abbrev pub volume_command : List ℕ → ℕ → FoundVolume → Option ℕ → List ℕ
volume_command path block volume broken = command_text (next_command broken) (edition_number volume.edition) (file_word path) block

-- a judged volume of the file at a path: its first block, its size, the command to go on with, its edition, the first rule that it breaks, and whether it
-- is sound (this project)
abbrev pub volume_data : List ℕ → ℕ → FoundVolume → Option ℕ → Data
volume_data path block volume broken =
    object (member (codes "block") (count block)
    (member (codes "blocks") (count volume.blocks)
    (member (codes "command") (string (volume_command path block volume broken))
    (member (codes "edition") (count (edition_number volume.edition))
    (member (codes "rule") (count_or_null broken)
    (member (codes "sound") (boolean (is_none broken)) no_members))))))

-- a volume that isn't judged: its first block, its size and its edition (this project)
abbrev pub front_data : ℕ → FoundVolume → Data
front_data block volume =
    object (member (codes "block") (count block)
    (member (codes "blocks") (count volume.blocks)
    (member (codes "edition") (count (edition_number volume.edition)) no_members)))

-- what is between volumes: its first block, its size, and whether all its bytes are zeros (this project)
abbrev pub between_data : ℕ → ℕ → Bool → Data
between_data block blocks zeros =
    object (member (codes "block") (count block)
    (member (codes "blocks") (count blocks)
    (member (codes "zeros") (boolean zeros) no_members)))

-- a part of the pack in the file at a path, with the first rule that it breaks, if it is a volume (this project)
abbrev pub part_by : List ℕ → Part → Option ℕ → Data
part_by path (parts.Volume block volume) broken = volume_data path block volume broken
part_by path (parts.Between block blocks zeros) broken = between_data block blocks zeros

-- a judged part of the pack in the file at a path (this project)
abbrev pub part_data : List ℕ → JudgedPart → Data
part_data path judged = part_by path judged.part judged.broken

-- the word for a tape or a disk of another system (this project)
abbrev pub foreign_word : foreigns.Foreign → List ℕ
foreign_word Simh = codes "simh"
foreign_word Dump = codes "dump"
foreign_word Tp = codes "tp"
foreign_word Fat = codes "fat"
foreign_word Rt11 = codes "rt11"
foreign_word Files11 = codes "files11"

-- the word for a guess: what packed a file is named (this project)
abbrev pub guess_word : Guess → List ℕ
guess_word Empty = codes "empty"
guess_word (Packed packing) = packing_text packing
guess_word Tar = codes "tar"
guess_word (Volume volume) = codes "volume"
guess_word (Swapped volume) = codes "swapped"
guess_word Ext2 = codes "ext2"
guess_word (CutOff volume there) = codes "cut"
guess_word (Foreign foreign) = foreign_word foreign
guess_word (Inside volume block) = codes "inside"
guess_word Unknown = codes "unknown"

-- the volume of a guess about the file at a path, if it has one; a whole volume is judged (this project)
abbrev pub guess_parts : List ℕ → Guess → Option ℕ → List Data
guess_parts path (Volume volume) broken = volume_data path 0 volume broken ∷ []
guess_parts path (Swapped volume) broken = front_data 0 volume ∷ []
guess_parts path (CutOff volume there) broken = front_data 0 volume ∷ []
guess_parts path (Inside volume block) broken = front_data block volume ∷ []
guess_parts path _ broken = []

-- the word for what a file seems to be (this project)
abbrev pub seen_word : Seen → List ℕ
seen_word (seens.Pack judged) = codes "pack"
seen_word (seens.Image found read) = guess_word found.guess

-- the parts of what the file at a path seems to be (this project)
abbrev pub seen_parts : List ℕ → Seen → List Data
seen_parts path (seens.Pack judged) = map (part_data path) judged.items
seen_parts path (seens.Image found read) = guess_parts path found.guess found.broken

-- the number of bytes that a guess is by; a pack was read as a whole (this project)
abbrev pub seen_read : Seen → Option ℕ
seen_read (seens.Pack judged) = None
seen_read (seens.Image found read) = Some read

-- the number of bytes after the last whole block of a file, if its size is known (this project)
abbrev pub tail_of : Option ℕ → Option ℕ
tail_of None = None
tail_of (Some size) = Some (size % 512)

-- what the file at a path seems to be: its size if it is known, the path, the number of the format, the guess, the parts, the number of bytes that the
-- guess is by, and the number of bytes after the last whole block (this project)
unfoldable pub seen_data : List ℕ → Option ℕ → Seen → Data
seen_data path size seen =
    object (member (codes "bytes") (count_or_null size)
    (member (codes "file") (string path)
    (member (codes "format") (count 1)
    (member (codes "guess") (string (seen_word seen))
    (member (codes "parts") (array (items_of (seen_parts path seen)))
    (member (codes "read") (count_or_null (seen_read seen))
    (member (codes "tail") (count_or_null (tail_of size)) no_members)))))))

-- the fault of a file with a status: memory ran out, or it can't be read (this project)
abbrev pub fault_word : ℕ → List ℕ
fault_word status = if status == 4 then codes "12 NoMemory" else codes "cannot read"

-- a file that wasn't read: its fault, its path, and the number of the format (this project)
abbrev pub unread_data : List ℕ → ℕ → Data
unread_data path status =
    object (member (codes "fault") (string (fault_word status))
    (member (codes "file") (string path)
    (member (codes "format") (count 1) no_members)))

-- what the file at a path seems to be, as a line (RFC 8259)
abbrev pub seen_json : List ℕ → Option ℕ → Seen → List ℕ
seen_json path size seen = compact_text (seen_data path size seen) ++ codes "\n"

-- a file that wasn't read, as a line (RFC 8259)
abbrev pub unread_json : List ℕ → ℕ → List ℕ
unread_json path status = compact_text (unread_data path status) ++ codes "\n"
