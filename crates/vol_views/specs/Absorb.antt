-- The effect of an operation on a published version.
use Rattle.std.specs.Prelude.{ℕ, List, [], ◌∷◌, ◌++◌, Option, None, Some}
use Rattle.vol_volume.specs.declared.calls.Record.{Record}
use Rattle.vol_views.specs.History.{Reached}
use Rattle.vol_views.specs.declared.history.LogEntry.{LogEntry}
use Rattle.vol_views.specs.declared.history.LogEntry.TheVariants.{Made}
use Rattle.vol_views.specs.declared.published.Published.{Published}
use Rattle.vol_views.specs.declared.published.Operation.{Operation}

-- the log entries of a record, if there is one (this project)
abbrev pub entries_of : Option Record → List LogEntry
entries_of None = []
entries_of (Some entry) = Made entry ∷ []

-- the published version after an operation (this project)
abbrev pub absorbed : Published → Operation → Published
absorbed p o = record { version = p.version ++ entries_of o.made; at = o.at; prefix = o.prefix }

-- an operation that changes nothing, for a version with this number and log prefix (this project)
abbrev pub empty_operation : ℕ → Reached → Operation
empty_operation at prefix = record { made = None; at = at; prefix = prefix }
