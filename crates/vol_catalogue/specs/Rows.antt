-- The rows of a catalogue, as comma-separated values.
use Rattle.std.specs.Prelude.{ℕ, List, [], ◌∷◌, ◌++◌, codes, decimal, Option, None, Some}
use Rattle.csv.specs.Writing.{default_writer, row_text}
use Rattle.hex.specs.Hex.{encode_lower}
use Rattle.vol_findings.specs.Reports.{edition_number}
use Rattle.vol_listing.specs.Dates.{moment_text}
use Rattle.vol_catalogue.specs.declared.facts.Counts.{Counts}
use Rattle.vol_catalogue.specs.declared.rows.FileFacts.{FileFacts}
use Rattle.vol_catalogue.specs.declared.rows.ListedVolume.{ListedVolume}

-- the first row, which names the columns (RFC 4180)
abbrev pub header_row : List ℕ
header_row = codes "file,bytes,sha256,block,edition,blocks,free_blocks,files,verdict,time\n"

-- the verdict on a volume: `sound`, or the first rule that it breaks (this project)
abbrev pub verdict_text : Option ℕ → List ℕ
verdict_text None = codes "sound"
verdict_text (Some rule) = codes "rule " ++ decimal rule

-- the number of free blocks of a volume in which they were counted (this project)
abbrev pub free_text : Option Counts → List ℕ
free_text None = []
free_text (Some counts) = decimal counts.free_blocks

-- the number of its regular files (this project)
abbrev pub files_text : Option Counts → List ℕ
files_text None = []
files_text (Some counts) = decimal counts.files

-- its time as a date and a time of day, in universal time (this project)
abbrev pub time_text : Option Counts → List ℕ
time_text None = []
time_text (Some counts) = moment_text counts.time

-- the row of a volume of the file at a path (RFC 4180)
abbrev pub row_of : List ℕ → FileFacts → ListedVolume → List ℕ
row_of path file listed =
    row_text default_writer (path ∷ decimal file.size ∷ encode_lower file.sum ∷ decimal listed.block ∷ decimal (edition_number listed.volume.edition)
    ∷ decimal listed.volume.blocks ∷ free_text listed.facts.counts ∷ files_text listed.facts.counts ∷ verdict_text listed.facts.broken ∷ time_text listed.facts.counts ∷ [])
