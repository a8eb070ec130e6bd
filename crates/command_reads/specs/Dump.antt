-- The command that shows the bytes of a block or an i-node, field by field.
use Rattle.std.specs.Prelude.{◌≡◌, ◌⊎◌, ℕ, ◌+◌, ◌*◌, ◌%◌, ◌==◌, nat_lt, ◌||◌, if◌then◌else◌, List, [], ◌++◌, codes, map, Option, Some, None, Result, Ok, Err}
use Rattle.std.specs.List.{flat_map, range_with_len}
use Rattle.vol_layout.specs.Edition.{constants}
use Rattle.vol_layout.specs.Geometry.{geometry_read}
use Rattle.vol_layout.specs.Inode.{inode_place}
use Rattle.vol_layout.specs.declared.edition.Edition.{Edition}
use Rattle.vol_layout.specs.declared.geometry.Geometry.{Geometry}
use Rattle.vol_layout.specs.declared.geometry.GeometryFault.{GeometryFault}
use Rattle.vol_dir.specs.Access.{user}
use Rattle.vol_dir.specs.Tree.{tree}
use Rattle.vol_dir.specs.Walk.{walk}
use Rattle.vol_dir.specs.declared.refusal.Refusal.{Refusal}
use Rattle.vol_dir.specs.declared.refusal.Refusal.TheVariants as refusals
use Rattle.field_json.specs.Meanings.{mode_words}
use Rattle.field_json.specs.Rows.{rows_json}
use Rattle.vol_fields.specs.Lines.{row_number, row_text}
use Rattle.vol_fields.specs.Roles.{role_of}
use Rattle.vol_fields.specs.Rows.{AreRows}
use Rattle.vol_fields.specs.Values.{value_kind}
use Rattle.vol_fields.specs.declared.lines.Radix.{Radix}
use Rattle.vol_fields.specs.declared.names.ValueKind.{ValueKind}
use Rattle.vol_fields.specs.declared.names.ValueKind.TheVariants as values
use Rattle.vol_fields.specs.declared.role.Role.{Role}
use Rattle.vol_fields.specs.declared.rows.Row.{Row}
use Rattle.vol_listing.specs.Dates.{moment_text}
use Rattle.command_faults.specs.Faults.{no_memory}
use Rattle.command_faults.specs.declared.fault.Fault.{Fault}
use Rattle.command_faults.specs.declared.fault.Fault.TheVariants as faults
use Rattle.command_reads.specs.Faults.{unmeasured}
use Rattle.command_reads.specs.declared.dump.Span.{Span}
use Rattle.command_terms.specs.declared.looks.DumpForm.{DumpForm}
use Rattle.command_terms.specs.declared.looks.DumpForm.TheVariants as dumps
use Rattle.command_terms.specs.declared.looks.DumpTarget.{DumpTarget}
use Rattle.command_terms.specs.declared.looks.DumpTarget.TheVariants as targets

-- the place of a block (manual section 5, file system)
abbrev pub block_span : Geometry → ℕ → Result Span Refusal
block_span g block = if nat_lt block g.zone_end then Ok (record { from = 512 * block; to = 512 * block + 512 }) else Err refusals.NoEntry

-- the place of the i-node with a number (manual section 5, file system)
abbrev pub inode_span : Geometry → ℕ → Result Span Refusal
inode_span g i =
    if i == 0 || nat_lt g.last_inode i then Err refusals.NoEntry
    else Ok (record { from = inode_place g.edition i; to = inode_place g.edition i + (constants g.edition).inode_bytes })

-- the place of the i-node to which a walk leads (this project)
abbrev pub path_span : Geometry → Result ℕ Refusal → Result Span Refusal
path_span g (Ok number) = inode_span g number
path_span g (Err refusal) = Err refusal

-- the place of what is dumped; a path is walked by user 0 (Lions on namei)
abbrev pub span_of : Geometry → List ℕ → DumpTarget → Result Span Refusal
span_of g image (targets.Block block) = block_span g block
span_of g image (targets.Inode number) = inode_span g number
span_of g image (targets.Path path) = path_span g (walk (tree g image) user path.now)

-- what a number means: a mode as letters, a time as a date (ls -l)
abbrev pub meaning_text : Edition → ValueKind → ℕ → List ℕ
meaning_text edition values.Mode n = codes "  " ++ mode_words edition (n % 65536)
meaning_text edition values.Moment n = codes "  " ++ moment_text n
meaning_text edition kind n = []

-- what the number of a row means, if it has one (this project)
abbrev pub number_meaning : Edition → ValueKind → Option ℕ → List ℕ
number_meaning edition kind None = []
number_meaning edition kind (Some n) = meaning_text edition kind n

-- the line of a row, after the heading of its part if it begins that (this project)
unfoldable pub row_line : Geometry → List Role → List ℕ → Radix → Row → List ℕ
row_line g table image radix row =
    row_text g table image radix row ++ (number_meaning g.edition (value_kind row.field.spot.name) (row_number image row) ++ codes "\n")

-- the lines of rows (this project)
unfoldable pub rows_text : Geometry → List Role → List ℕ → Radix → List Row → List ℕ
rows_text g table image radix rows = flat_map (row_line g table image radix) rows

-- the roles of all blocks (this project)
abbrev pub all_roles : Geometry → List ℕ → List Role
all_roles g image = map (role_of g image) (range_with_len 0 g.zone_end)

-- rows of the bytes from byte `from` on, in this format (this project)
abbrev pub rows_in : Geometry → List Role → List ℕ → DumpForm → ℕ → List Row → List ℕ
rows_in g table image (dumps.Text radix) from rows = rows_text g table image radix rows
rows_in g table image dumps.Json from rows = rows_json g table image from rows

-- the text has the rows of the bytes at a place: by the law `RowsHaveBytes` of `vol_fields`, the rows have exactly these bytes, in order, and by the law
-- `ObjectsHaveBytes` of `field_json` so have their objects (this project)
abbrev pub IsDump : Geometry → List ℕ → DumpForm → Span → List ℕ → Type 0
IsDump g image form span text =
    (rows : List Row) × AreRows g (all_roles g image) image span.to span.from span.to rows × (text ≡ rows_in g (all_roles g image) image form span.from rows)

-- the text is the dump of a block or an i-node of an image (this project)
abbrev pub IsDumpText : Edition → List ℕ → DumpTarget → DumpForm → List ℕ → Type 0
IsDumpText edition image target form text =
    (g : Geometry) × (geometry_read edition image ≡ Ok g) × ((span : Span) × (span_of g image target ≡ Ok span) × IsDump g image form span text)

-- the image breaks rule 1 or 2 (this project)
abbrev pub IsUnmeasured : Edition → List ℕ → Fault → Type 0
IsUnmeasured edition image fault = (why : GeometryFault) × (geometry_read edition image ≡ Err why) × (fault ≡ unmeasured why)

-- the image doesn't have the block or the i-node, or the path leads to none (this project)
abbrev pub IsUnplaced : Edition → List ℕ → DumpTarget → Fault → Type 0
IsUnplaced edition image target fault =
    (g : Geometry) × (geometry_read edition image ≡ Ok g) × ((why : Refusal) × (span_of g image target ≡ Err why) × (fault ≡ faults.Refused why))

-- memory ran out, for an image that has the block or the i-node (this project)
abbrev pub IsOutOfMemory : Edition → List ℕ → DumpTarget → Fault → Type 0
IsOutOfMemory edition image target fault =
    (g : Geometry) × (geometry_read edition image ≡ Ok g) × ((span : Span) × (span_of g image target ≡ Ok span) × (fault ≡ no_memory))

-- the reason why there is no dump (this project)
abbrev pub IsDumpFault : Edition → List ℕ → DumpTarget → Fault → Type 0
IsDumpFault edition image target fault =
    IsUnmeasured edition image fault ⊎ (IsUnplaced edition image target fault ⊎ IsOutOfMemory edition image target fault)
