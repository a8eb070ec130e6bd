-- The use of each block as JSON.
use Rattle.std.specs.Prelude.{◌≡◌, ℕ, ◌+◌, if◌then◌else◌, List, [], ◌∷◌, ◌++◌, codes, map, slice_index_or, Ok}
use Rattle.std.specs.Str.{bytes_eq}
use Rattle.serde_json.specs.Data.{Data, array, member, no_members, object, string}
use Rattle.serde_json.specs.View.{items_of}
use Rattle.serde_json.specs.Written.{compact_text}
use Rattle.vol_inspect.specs.Legend.{name}
use Rattle.vol_inspect.specs.declared.uses.Use.{Use}
use Rattle.vol_inspect.specs.declared.uses.Use.TheVariants as uses
use Rattle.vol_layout.specs.Geometry.{geometry_read}
use Rattle.vol_layout.specs.declared.edition.Edition.{Edition}
use Rattle.vol_layout.specs.declared.geometry.Geometry.{Geometry}
use Rattle.vol_listing.specs.Json.{count}
use Rattle.command_reads.specs.Map.{uses_in}
use Rattle.command_reads.specs.declared.map_json.UseRun.{UseRun}

-- a run with one more block (this project)
abbrev pub longer : UseRun → UseRun
longer run = record { block = run.block; count = run.count + 1; usage = run.usage }

-- the run of one block, with this use, after a run (this project)
abbrev pub next : UseRun → Use → UseRun
next run u = record { block = run.block + run.count; count = 1; usage = u }

-- a run, and those of the blocks after it that have these uses: a block with the run's use makes it longer, any other begins the next one (this project)
unfoldable pub runs_from : UseRun → List Use → List UseRun
runs_from run [] = run ∷ []
runs_from run (u ∷ us) = if bytes_eq (name run.usage) (name u) then runs_from (longer run) us else run ∷ runs_from (next run u) us

-- the use of the first block; it is the boot block unless it couldn't be read (this project)
abbrev pub first_use : List Use → Use
first_use us = slice_index_or us 0 uses.Boot

-- the runs of blocks with one use (this project)
abbrev pub runs : List Use → List UseRun
runs us = runs_from (record { block = 0; count = 0; usage = first_use us }) us

-- a run of blocks: the first one, their number, and their use (this project)
abbrev pub run_data : UseRun → Data
run_data run =
    object (member (codes "block") (count run.block)
    (member (codes "count") (count run.count)
    (member (codes "use") (string (name run.usage)) no_members)))

-- runs of blocks (this project)
abbrev pub runs_data : List UseRun → Data
runs_data found = object (member (codes "format") (count 1) (member (codes "map") (array (items_of (map run_data found))) no_members))

-- runs of blocks as JSON, on one line (RFC 8259)
abbrev pub runs_json : List UseRun → List ℕ
runs_json found = compact_text (runs_data found) ++ codes "\n"

-- the use of each block of a volume as JSON, on one line (this project)
abbrev pub uses_json : Geometry → List ℕ → List ℕ
uses_json g image = runs_json (runs (uses_in g image))

-- the uses of the blocks of the volume in an image (this project)
abbrev pub AreUses : Edition → List ℕ → List ℕ → Type 0
AreUses edition image text = (g : Geometry) × (geometry_read edition image ≡ Ok g) × (text ≡ uses_json g image)
