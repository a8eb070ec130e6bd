-- The lines about the parts of a pack.
use Rattle.std.specs.Prelude.{ℕ, ◌==◌, Bool, true, false, not, ◌&&◌, nat_lt, if◌then◌else◌, List, ◌++◌, codes, decimal, Option, None, Some}
use Rattle.std.specs.List.{flat_map, list_any}
use Rattle.vol_findings.specs.Reports.{edition_number}
use Rattle.vol_identify.specs.Texts.{volume_text}
use Rattle.vol_identify.specs.declared.front.FoundVolume.{FoundVolume}
use Rattle.vol_identify.specs.declared.pack_scan.Part.{Part}
use Rattle.vol_identify.specs.declared.pack_scan.Part.TheVariants.{Volume, Between}
use Rattle.vol_identify.specs.declared.pack_texts.JudgedPart.{JudgedPart}

-- true if a part begins after block 0, and is a volume or other bytes than zeros (this project)
abbrev pub is_later : Part → Bool
is_later (Volume block volume) = nat_lt 0 block
is_later (Between block blocks zeros) = nat_lt 0 block && not zeros

-- true if these are the parts of a pack: a volume begins after block 0, or a volume has other bytes than zeros after it (this project)
abbrev pub is_pack : List Part → Bool
is_pack parts = list_any is_later parts

-- a path, and the option for the block that a volume begins at (this project)
abbrev pub place_text : List ℕ → ℕ → List ℕ
place_text path block = if block == 0 then path else path ++ (codes " --at " ++ decimal block)

-- a command for the volume of an edition at a block of the file at a path (this project)
abbrev pub command_text : List ℕ → ℕ → List ℕ → ℕ → List ℕ
command_text word edition path block =
    codes "unixvol " ++ (word ++ (codes " " ++ (decimal edition ++ (codes " " ++ place_text path block))))

-- what judging says of a volume, and the command to go on with: `ls` if it is sound, else `check` (this project)
abbrev pub verdict_text : List ℕ → ℕ → FoundVolume → Option ℕ → List ℕ
verdict_text path block volume None = codes ", sound: " ++ command_text (codes "ls") (edition_number volume.edition) path block
verdict_text path block volume (Some rule) =
    codes ", which breaks rule " ++ (decimal rule ++ (codes ": " ++ command_text (codes "check") (edition_number volume.edition) path block))

-- what is between volumes (this project)
abbrev pub between_text : Bool → List ℕ
between_text true = codes "zeros"
between_text false = codes "other bytes"

-- what a part is (this project)
abbrev pub part_text : List ℕ → Part → Option ℕ → List ℕ
part_text path (Volume block volume) broken = decimal block ++ (codes ": " ++ (volume_text volume ++ verdict_text path block volume broken))
part_text path (Between block blocks zeros) broken = decimal block ++ (codes ": " ++ (decimal blocks ++ (codes " blocks of " ++ between_text zeros)))

-- the line of a part (this project)
abbrev pub part_line : List ℕ → JudgedPart → List ℕ
part_line path judged = codes "  at " ++ (part_text path judged.part judged.broken ++ codes "\n")

-- the lines of the pack in the file at a path, which is this word of a shell: what it looks like, and a line for each part, in order (this project)
abbrev pub pack_lines : List ℕ → List ℕ → List JudgedPart → List ℕ
pack_lines path word parts = (path ++ codes ": looks like a larger pack\n") ++ flat_map (part_line word) parts
