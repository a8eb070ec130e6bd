-- The state that a log's entries make when they are applied one by one.
use Rattle.std.specs.Prelude.{◌==◌, ◌&&◌, Bool, true, false, if◌then◌else◌, List, [], ◌∷◌, length, is_none}
use Rattle.vol_dir.specs.Tree.{State}
use Rattle.vol_volume.specs.Journal.{after}
use Rattle.vol_volume.specs.Step.{step}
use Rattle.vol_volume.specs.Verdict.{verdict, is_free_number}
use Rattle.vol_volume.specs.declared.calls.Call.{Call}
use Rattle.vol_volume.specs.declared.calls.Call.TheVariants.{Create, Mkdir, Link, Unlink, Rmdir, Write, Truncate, Chmod, Chown, Times, Mknod}
use Rattle.vol_volume.specs.declared.calls.Done.{Done}
use Rattle.vol_volume.specs.declared.calls.Done.TheVariants.{Made, Wrote, Plain}
use Rattle.vol_volume.specs.declared.calls.Record.{Record}
use Rattle.vol_layout.specs.declared.edition.Edition.TheVariants as editions
use Rattle.vol_receipts.specs.Agrees.{start}
use Rattle.vol_views.specs.declared.history.LogEntry.{LogEntry}
use Rattle.vol_views.specs.declared.history.LogEntry.TheVariants as entries

-- true if an accepted call may have this result: a new file has any free i-number, and a write writes all bytes (this project)
abbrev pub is_answer : State → Call → Done → Bool
is_answer state (Create cred now path perm) (Made i) = is_free_number state.tree i
is_answer state (Mkdir cred now path perm) (Made i) = is_free_number state.tree i
is_answer state (Mknod cred now path perm device) (Made i) = is_free_number state.tree i
is_answer state (Write cred now path offset bytes) (Wrote n) = n == length bytes
is_answer state (Link cred now source target) Plain = true
is_answer state (Unlink cred now path) Plain = true
is_answer state (Rmdir cred now path) Plain = true
is_answer state (Truncate cred now path size) Plain = true
is_answer state (Chmod cred now path perm) Plain = true
is_answer state (Chown cred now path uid gid) Plain = true
is_answer state (Times cred now path atime mtime) Plain = true
is_answer state _ _ = false

-- true if a record may come next in a state: its call is accepted with its result (this project)
unfoldable pub is_next : State → Record → Bool
is_next state entry = is_none (verdict state entry.call) && is_answer state entry.call entry.done

-- the state after a record is applied; a record that may not come next changes nothing (this project)
unfoldable pub applied : State → Record → State
applied state entry = if is_next state entry then step state entry.call entry.done else state

-- the state after an entry; the entry of an opened volume makes the state after its journal (this project)
abbrev pub taken : State → LogEntry → State
taken state (entries.Opened origin journal) = after (start origin) journal
taken state (entries.Made entry) = applied state entry

-- the state after these entries, applied to a state (this project)
abbrev pub taken_all : State → List LogEntry → State
taken_all state [] = state
taken_all state (entry ∷ log) = taken_all (taken state entry) log

-- the state after all entries of a log, which begins with the state of an empty image (this project)
unfoldable pub state_of : List LogEntry → State
state_of log = taken_all (start (record { edition = editions.V6; bytes = []; first = 0 })) log
