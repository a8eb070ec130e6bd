-- Fields that follow one another without a gap.
use Rattle.std.specs.Prelude.{ℕ, ◌+◌, ◌-◌, ◌*◌, ◌/◌, ◌^◌, ◌≤◌, nat_lt, if◌then◌else◌, List, [], ◌∷◌}
use Rattle.vol_fields.specs.declared.runs.Run.{Run}
use Rattle.vol_fields.specs.declared.runs.Spot.{Spot}
use Rattle.vol_fields.specs.declared.names.Name.{Name}
use Rattle.vol_fields.specs.declared.names.Name.TheVariants as names

-- one field with this index and size (this project)
abbrev pub one : Name → ℕ → ℕ → Run
one name index bytes = record { name = name; first = index; count = 1; bytes = bytes }

-- an array of fields of one size, whose indexes begin at `first` (this project)
abbrev pub array : Name → ℕ → ℕ → ℕ → Run
array name first count bytes = record { name = name; first = first; count = count; bytes = bytes }

-- the number of bytes of all fields (this project)
abbrev pub total : List Run → ℕ
total [] = 0
total (run ∷ more) = run.count * run.bytes + total more

-- each index of the runs is a `usize` (this project)
abbrev pub AreCounted : List Run → Type 0
AreCounted [] = Unit
AreCounted (run ∷ more) = (run.first + run.count ≤ 2 ^ 64) × AreCounted more

-- the field of a run that has byte n, if the run begins at byte `start` (this project)
abbrev pub spot_in : Run → ℕ → ℕ → Spot
spot_in run start n = record {
  name = run.name;
  index = run.first + (n - start) / run.bytes;
  start = start + ((n - start) / run.bytes) * run.bytes;
  bytes = run.bytes;
}

-- the field that has byte n, if the first of the runs begins at byte `base`: each run begins where the one before it ends; the bytes after the last
-- are fields by themselves (this project)
unfoldable pub spot_at : List Run → ℕ → ℕ → Spot
spot_at [] base n = record { name = names.Past; index = n - base; start = n; bytes = 1 }
spot_at (run ∷ more) base n =
    if nat_lt (n - base) (run.count * run.bytes) then spot_in run base n else spot_at more (base + run.count * run.bytes) n
