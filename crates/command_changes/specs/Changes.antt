-- The outcomes of changes of a volume.
use Rattle.std.specs.Prelude.{◌≡◌, ℕ, Bool, false, List, [], ◌∷◌}
use Rattle.vol_dir.specs.Access.{user}
use Rattle.vol_dir.specs.Names.{is_dots}
use Rattle.vol_dir.specs.Tree.{Tree}
use Rattle.vol_layout.specs.declared.edition.Edition.{Edition}
use Rattle.vol_volume.specs.Volume.{reads_as}
use Rattle.vol_volume.specs.declared.calls.Call.{Call}
use Rattle.vol_volume.specs.declared.calls.Call.TheVariants as calls
use Rattle.vol_check.specs.SalvagedImages.{IsSalvaged}
use Rattle.vol_import.specs.Make.{Imports}
use Rattle.vol_batch.specs.Remove.{Removes}
use Rattle.vol_import.specs.MadeMembers.{HasArchive}
use Rattle.vol_import.specs.Members.{members}
use Rattle.vol_import.specs.Options.{calls_with, chosen_members, left_out}
use Rattle.vol_import.specs.declared.import_options.ImportOptions.{ImportOptions}
use Rattle.command_faults.specs.ChangeFaults.{IsReason, Makes}
use Rattle.command_faults.specs.Outcomes.{Outcomes, untraced}
use Rattle.command_changes.specs.Boot.{IsBooted, IsUnbooted}
use Rattle.command_changes.specs.Chmod.{HasPermissions, chmod_call}
use Rattle.command_changes.specs.Lookup.{last_name}
use Rattle.command_changes.specs.Import.{IsUnimported}
use Rattle.command_changes.specs.ImportLines.{left_lines}
use Rattle.command_changes.specs.Mkdir.{HasMade, HasMissing, mkdir_all_calls, mkdir_calls}
use Rattle.command_changes.specs.Mknod.{HasSpecial, mknod_calls}
use Rattle.command_changes.specs.Mv.{HasMoved, move_calls}
use Rattle.command_changes.specs.Put.{HasPut, put_calls}
use Rattle.command_changes.specs.Rm.{IsCause}
use Rattle.command_changes.specs.Salvage.{IsUnsalvaged}
use Rattle.command_changes.specs.Touch.{HasTimes, touch_call}
use Rattle.command_changes.specs.Traced.{TracesCalls, TracesImport}
use Rattle.command_changes.specs.declared.kept.GivenFile.{GivenFile}
use Rattle.command_terms.specs.Permissions.{changed_permissions}
use Rattle.command_terms.specs.declared.changes.Change.{Change}
use Rattle.command_terms.specs.declared.changes.Change.TheVariants as changes

-- the outcomes of calls: the bytes that they make, with their trace if it is wanted, or a reason not to make them (this project)
abbrev pub of_calls : Edition → List ℕ → List Call → Bool → Outcomes
of_calls edition image calls trace = record {
  saves = λ bytes text. Makes edition image calls bytes × TracesCalls trace edition image calls bytes text;
  lines = [];
  fails = IsReason edition image calls;
}

-- the outcomes of calls, if the tree to save also satisfies `leaves` (this project)
abbrev pub of_calls_leaving : Edition → List ℕ → List Call → (Tree → Type 0) → Bool → Outcomes
of_calls_leaving edition image calls leaves trace = record {
  saves = λ bytes text. Makes edition image calls bytes × leaves (reads_as edition bytes).tree × TracesCalls trace edition image calls bytes text;
  lines = [];
  fails = IsReason edition image calls;
}

-- the outcomes of `rm -r`: the bytes without the tree at a path, with the trace of the calls that remove it if it is wanted, or a reason not to remove
-- it (this project)
abbrev pub of_removal : Edition → List ℕ → List ℕ → ℕ → Bool → Outcomes
of_removal edition image path now trace = record {
  saves = λ bytes text. (removes : Removes edition image path now bytes) × TracesCalls trace edition image removes.calls bytes text;
  lines = [];
  fails = IsCause edition image path now;
}

-- the outcomes of `import`: the tree to save has the members of the archive that the options choose, below a path, and keeps everything that the
-- image's tree had; each other member has a line. Its calls have a trace if it is wanted (this project)
abbrev pub of_archive : Edition → List ℕ → List ℕ → List ℕ → ImportOptions → ℕ → Bool → Outcomes
of_archive edition image archive path options now trace = record {
  saves = λ bytes text. Imports edition image (calls_with options (reads_as edition image).tree archive path now) bytes
      × HasArchive (reads_as edition image).tree (reads_as edition bytes).tree path now (chosen_members options (members archive))
      × TracesImport trace edition image (calls_with options (reads_as edition image).tree archive path now) bytes text;
  lines = left_lines (left_out options (members archive));
  fails = IsUnimported edition image (calls_with options (reads_as edition image).tree archive path now);
}

-- the outcomes of a change, with these bytes of its file or archive, and with the trace of its calls if it is wanted: its calls are made, all or none,
-- or the free list is rebuilt. Afterwards PATH of `import` has the members of the archive that aren't left out below it; PATH of `put` leads to a file
-- of these bytes, with what is kept, and the owner if one is given; PATH of `mkdir` leads to a directory with the owner, and so does PATH of `mkdir -p`
-- unless its last name is `.` or `..`, but for the owner if the directory was there; FROM of `mv` leads nowhere, and the new path leads to the file that
-- FROM led to; PATH of `mknod` leads to the special file of its device, with its permissions and the owner; the permissions at PATH of `chmod` are those that its change makes of the old ones; both times of the node at PATH of `touch` are NOW.
-- `boot` changes block 0 alone. `salvage` and `boot` have no trace (this project)
abbrev pub changed : Edition → List ℕ → GivenFile → Change → Bool → Outcomes
changed edition image given (changes.Put path file keep owner now) trace =
    of_calls_leaving edition image (put_calls (reads_as edition image).tree now path.now given.bytes.items given.kept owner)
    (λ tree. HasPut tree path.now given.bytes.items given.kept owner) trace
changed edition image given (changes.Import path options now) trace = of_archive edition image given.bytes.items path.now options now trace
changed edition image given (changes.Rm path now) trace = of_calls edition image (calls.Unlink user now path.now ∷ []) trace
changed edition image given (changes.RmAll path now) trace = of_removal edition image path.now now trace
changed edition image given (changes.Rmdir path now) trace = of_calls edition image (calls.Rmdir user now path.now ∷ []) trace
changed edition image given (changes.Mkdir path owner now) trace =
    of_calls_leaving edition image (mkdir_calls now owner path.now) (λ tree. HasMade tree path.now owner) trace
changed edition image given (changes.MkdirAll path owner now) trace =
    of_calls_leaving edition image (mkdir_all_calls (reads_as edition image).tree now owner path.now)
    (λ tree. is_dots (last_name path.now) ≡ false → HasMissing (reads_as edition image).tree tree path.now owner) trace
changed edition image given (changes.Ln from to now) trace = of_calls edition image (calls.Link user now from.now to.now ∷ []) trace
changed edition image given (changes.Mv from to now) trace =
    of_calls_leaving edition image (move_calls (reads_as edition image).tree now from.now to.now) (HasMoved (reads_as edition image).tree now from.now to.now)
    trace
changed edition image given (changes.Chmod path change now) trace =
    of_calls_leaving edition image (chmod_call (reads_as edition image).tree now path.now change ∷ [])
    (HasPermissions (reads_as edition image).tree path.now change) trace
changed edition image given (changes.Chown path uid gid now) trace = of_calls edition image (calls.Chown user now path.now uid gid ∷ []) trace
changed edition image given (changes.Touch path now) trace =
    of_calls_leaving edition image (touch_call (reads_as edition image).tree now path.now ∷ []) (λ tree. HasTimes tree path.now now) trace
changed edition image given (changes.Mknod path device change owner now) trace =
    of_calls_leaving edition image (mknod_calls now device change owner path.now)
    (λ tree. HasSpecial tree path.now device (changed_permissions change 0o644) owner) trace
changed edition image given changes.Salvage trace =
    record { saves = untraced (IsSalvaged edition image); lines = []; fails = IsUnsalvaged edition image }
changed edition image given (changes.Boot file) trace = record {
  saves = untraced (IsBooted edition given.bytes.items image);
  lines = [];
  fails = IsUnbooted edition given.bytes.items image;
}
