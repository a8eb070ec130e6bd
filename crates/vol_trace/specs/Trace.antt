-- The trace of a volume: the records of its journal, each with the fields that it changed.
use Rattle.std.specs.Prelude.{◌≡◌, ℕ, false, true, List, [], ◌∷◌, ◌++◌, map}
use Rattle.std.specs.List.{range_with_len}
use Rattle.vol_layout.specs.Geometry.{geometry_of}
use Rattle.vol_layout.specs.declared.geometry.Geometry.{Geometry}
use Rattle.vol_fields.specs.Differences.{IsDiffText}
use Rattle.vol_fields.specs.Roles.{role_of}
use Rattle.vol_fields.specs.declared.role.Role.{Role}
use Rattle.vol_scripts.specs.Journal.{call_text}
use Rattle.vol_volume.specs.Volume.{Mounted, Performs}
use Rattle.vol_volume.specs.declared.calls.Record.{Record}
use Rattle.vol_trace.specs.Indent.{indented}

-- the role of each block of an image (this project)
abbrev pub roles_of : Geometry → List ℕ → List Role
roles_of g image = map (role_of g image) (range_with_len 0 g.zone_end)

-- the text is what differs between two images of a volume: the roles of blocks, and the fields (diff)
abbrev pub IsChanges : Geometry → List ℕ → List ℕ → List ℕ → Type 0
IsChanges g old new text = IsDiffText g (roles_of g old) old g (roles_of g new) new false text

-- the text is that of a record: the line of its call, and, indented, what differs between the image before it and the one after it (this project)
abbrev pub IsRecordText : Geometry → List ℕ → List ℕ → Record → List ℕ → Type 0
IsRecordText g old new entry text = (changes : List ℕ) × IsChanges g old new changes × (text ≡ call_text entry.call ++ indented true changes)

-- the text of a record was appended (this project)
abbrev pub AppendsRecord : Geometry → List ℕ → List ℕ → Record → List ℕ → List ℕ → Type 0
AppendsRecord g old new entry before after = (text : List ℕ) × IsRecordText g old new entry text × (after ≡ before ++ text)

-- the text is that of records which are made on an image one after another: each record is shown between the images before and after its call (this
-- project)
abbrev pub IsTraceFrom : Geometry → List ℕ → List Record → List ℕ → Type 0
IsTraceFrom g image [] text = text ≡ []
IsTraceFrom g image (entry ∷ entries) text =
    (next : List ℕ) × Performs g image next entry.call entry.done
    × ((first : List ℕ) × IsRecordText g image next entry first × ((rest : List ℕ) × IsTraceFrom g next entries rest × (text ≡ first ++ rest)))

-- the text is the trace of a volume: all records of its journal, from the bytes that it starts from (this project)
abbrev pub IsTrace : Mounted → List ℕ → Type 0
IsTrace volume text = IsTraceFrom (geometry_of volume.edition volume.base) volume.base volume.journal text
