-- `identify`: the part of each file that it reads, and the lines that it prints.
use Rattle.std.specs.Prelude.{◌≡◌, ◌⊎◌, ℕ, ◌+◌, ◌*◌, ◌==◌, max, if◌then◌else◌, List, [], ◌∷◌, ◌++◌, length, take, Option, None, Some}
use Rattle.std.specs.List.{flat_map}
use Rattle.command_faults.specs.Streams.{Streams}
use Rattle.command_reads.specs.Print.{IsBrokenOff, IsPrintedWith}
use Rattle.command_words.specs.declared.invocation.GuessForm.{GuessForm}
use Rattle.command_words.specs.declared.invocation.GuessForm.TheVariants as forms
use Rattle.host_files.specs.ReadParts.{IsReadOn}
use Rattle.host_files.specs.declared.image_file.Stamp.{Stamp}
use Rattle.identify_lines.specs.GuessJson.{seen_json, unread_json}
use Rattle.identify_lines.specs.Lines.{seen_lines}
use Rattle.identify_lines.specs.declared.seen.Seen.{Seen}
use Rattle.identify_lines.specs.declared.seen.Seen.TheVariants as seens
use Rattle.pack_files.specs.Catalogued.{AreListed, AreParts, IsSummed}
use Rattle.pack_files.specs.PackFiles.{GivesPack, is_regular}
use Rattle.vol_catalogue.specs.Rows.{header_row, row_of}
use Rattle.vol_catalogue.specs.declared.rows.FileFacts.{FileFacts}
use Rattle.vol_catalogue.specs.declared.rows.ListedVolume.{ListedVolume}
use Rattle.vol_identify.specs.Front.{blocks_wanted}
use Rattle.vol_identify.specs.Guesses.{IsJudgedSo, guess_of}
use Rattle.vol_identify.specs.declared.guess.Identified.{Identified}
use Rattle.vol_identify.specs.declared.pack_scan.Part.{Part}
use Rattle.unixvol.specs.Exits.{Exits, ToEnd}
use Rattle.unixvol.specs.Runs.{IsEnd, IsStatusOfFileOrMemory}

-- the greatest number of bytes of a file that are read for a guess, by its first three blocks: those of the volume that may begin there, and one block
-- more; 268,435,456 if none may (this project)
unfoldable pub most_bytes : List ℕ → ℕ
most_bytes head = if blocks_wanted head == 0 then 268435456 else 512 * blocks_wanted head + 512

-- this front of a source was read for a guess: its first three blocks, and then on to the bytes that these ask for, or to the source's end (this project)
abbrev pub IsFrontRead : Option (List ℕ) → Option (List ℕ) → List ℕ → Type 0
IsFrontRead old new front =
    (head : List ℕ) × (between : Option (List ℕ)) × IsReadOn old between [] head 1536 × IsReadOn between new head front (most_bytes head)

-- this front of some file was read for a guess (this project)
abbrev pub GaveFront : {F : Type 0} → (F → Option (List ℕ)) → List ℕ → Type 0
GaveFront {F} remaining front = (old : F) × (new : F) × IsFrontRead (remaining old) (remaining new) front

-- a front that some file gave looks like this image, by this number of its bytes (this project)
abbrev pub IsImageSeen : {F : Type 0} → (F → Option (List ℕ)) → Identified → ℕ → Type 0
IsImageSeen remaining found read =
    (front : List ℕ) × GaveFront remaining front × (found.guess ≡ guess_of front) × IsJudgedSo front found.guess found.broken × (read ≡ length front)

-- a file has this pack, whose volumes were read and judged; or it has none, and a front that it gave looks like this image (this project)
abbrev pub IsSeen : {F : Type 0} → (F → Option (List ℕ)) → (F → Stamp → Type 0) → (Stamp → Type 0) → Seen → Type 0
IsSeen remaining stamped stood (seens.Pack judged) = GivesPack remaining stamped stood (Some judged)
IsSeen remaining stamped stood (seens.Image found read) = GivesPack remaining stamped stood None × IsImageSeen remaining found read

-- the number of bytes of a regular file; none of another kind (this project)
abbrev pub size_of : Stamp → Option ℕ
size_of stamp = if is_regular stamp.kind then Some stamp.size else None

-- a file was read for a catalogue: its SHA-256 was computed, and these are its volumes, with what is counted in them (this project)
abbrev pub IsCatalogued : {F : Type 0} → (F → Option (List ℕ)) → (F → Stamp → Type 0) → FileFacts → List ListedVolume → Type 0
IsCatalogued remaining stamped file volumes =
    IsSummed remaining stamped file × (parts : List Part) × AreParts remaining stamped parts × AreListed remaining parts volumes

-- this is the line, or these are the lines, of the file at a path in this format: of what it seems to be, with the size of the file at some path; or the
-- rows of its volumes (this project)
abbrev pub IsTold : {F : Type 0} → (F → Option (List ℕ)) → (F → Stamp → Type 0) → (Stamp → Type 0) → GuessForm → List ℕ → List ℕ → Type 0
IsTold remaining stamped stood forms.Lines path line =
    (seen : Seen) × IsSeen remaining stamped stood seen × (stamp : Stamp) × stood stamp × (line ≡ seen_lines path (size_of stamp) seen)
IsTold remaining stamped stood forms.Json path line =
    (seen : Seen) × IsSeen remaining stamped stood seen × (stamp : Stamp) × stood stamp × (line ≡ seen_json path (size_of stamp) seen)
IsTold remaining stamped stood forms.Catalogue path line =
    (file : FileFacts) × (volumes : List ListedVolume) × IsCatalogued remaining stamped file volumes × (line ≡ flat_map (row_of path file) volumes)

-- this is the line of a file that wasn't read, with this status: in JSON the one for its fault, unless memory ran out; else none (this project)
abbrev pub IsUntold : GuessForm → List ℕ → ℕ → List ℕ → Type 0
IsUntold forms.Lines path status line = line ≡ []
IsUntold forms.Json path status line = (line ≡ unread_json path status) ⊎ ((status ≡ 4) × (line ≡ []))
IsUntold forms.Catalogue path status line = line ≡ []

-- the line of a file, in this format, with the status 0; or the one of a file that can't be read, or for which memory ran out, with the status for that
-- (this project)
abbrev pub IsLine : {F : Type 0} → (F → Option (List ℕ)) → (F → Stamp → Type 0) → (Stamp → Type 0) → GuessForm → List ℕ → List ℕ → ℕ → Type 0
IsLine remaining stamped stood form path line status =
    ((status ≡ 0) × IsTold remaining stamped stood form path line) ⊎ (IsStatusOfFileOrMemory status × IsUntold form path status line)

-- what is printed before the first line: of a catalogue, its headings (this project)
abbrev pub front_of : GuessForm → List ℕ
front_of forms.Lines = []
front_of forms.Json = []
front_of forms.Catalogue = header_row

-- these are the lines of these files, in order and in this format, and the greatest of their statuses (this project)
abbrev pub AreIdentified : {F : Type 0} → (F → Option (List ℕ)) → (F → Stamp → Type 0) → (Stamp → Type 0) → GuessForm → List (List ℕ) → List ℕ → ℕ → Type 0
AreIdentified remaining stamped stood form [] lines status = (lines ≡ []) × (status ≡ 0)
AreIdentified remaining stamped stood form (path ∷ more) lines status =
    (line : List ℕ) × (one : ℕ) × (rest : List ℕ) × (others : ℕ) × IsLine remaining stamped stood form path line one × AreIdentified remaining stamped stood form more rest others
    × (lines ≡ line ++ rest) × (status ≡ max one others)

-- `identify` runs: the lines of these files are printed in this format, after what precedes them; or standard output fails, and the files after the one whose line couldn't be
-- printed aren't looked at (this project)
abbrev pub RunsIdentify : {F : Type 0} → (F → Option (List ℕ)) → (F → Stamp → Type 0) → (Stamp → Type 0) → Streams → GuessForm → List (List ℕ) → ℕ → Type 0
RunsIdentify remaining stamped stood streams form paths status =
    ((lines : List ℕ) × (read : ℕ) × AreIdentified remaining stamped stood form paths lines read × IsPrintedWith read streams (front_of form ++ lines) status)
    ⊎ ((count : ℕ) × (lines : List ℕ) × (read : ℕ) × AreIdentified remaining stamped stood form (take count paths) lines read
    × IsBrokenOff streams (front_of form ++ lines) status)

-- `identify` runs to its end, as a command that shows part of an image does (this project)
abbrev pub IdentifiesToEnd : {F : Type 0} → (F → Option (List ℕ)) → (F → Stamp → Type 0) → (Stamp → Type 0) → Option (List ℕ) → Option (List ℕ) → GuessForm → List (List ℕ) → ℕ → Type 0
IdentifiesToEnd remaining stamped stood output errors form paths end =
    ToEnd output errors (λ streams status. RunsIdentify remaining stamped stood streams form paths status) IsEnd
    Exits end
