-- The effect of an accepted call on a tree and on the shapes of its files.
use Rattle.std.specs.Prelude.{ℕ, List, Option, None, Some, Result, Ok, Err}
use Rattle.vol_dir.specs.Tree.{State}
use Rattle.vol_dir.specs.Walk.{walk, walk_parent}
use Rattle.vol_change.specs.Edits.{at_time, after_write, after_truncate}
use Rattle.vol_change.specs.Effects.{after_create, after_mkdir, after_link, after_unlink, after_rmdir, after_chmod, after_chown, after_utime}
use Rattle.vol_dir.specs.declared.refusal.Refusal.{Refusal}
use Rattle.vol_change.specs.declared.new_nodes.NewFile.TheVariants.{Regular, Special}
use Rattle.vol_volume.specs.declared.calls.Call.{Call}
use Rattle.vol_volume.specs.declared.calls.Call.TheVariants.{Create, Mkdir, Link, Unlink, Rmdir, Write, Truncate, Chmod, Chown, Times, Mknod}
use Rattle.vol_volume.specs.declared.calls.Done.{Done}
use Rattle.vol_volume.specs.declared.calls.Done.TheVariants.{Made, Wrote, Plain}

-- the state after a change at the node at the end of a walk; unchanged if the walk is refused (this project)
abbrev pub on_node : State → Result ℕ Refusal → (ℕ → State) → State
on_node state (Err refusal) change = state
on_node state (Ok i) change = change i

-- the state after a change at the parent and the name at the end of a walk; unchanged if the walk is refused or the path has no components (this
-- project)
abbrev pub on_parent : State → Option (Result (ℕ × List ℕ) Refusal) → (ℕ → List ℕ → State) → State
on_parent state None change = state
on_parent state (Some (Err refusal)) change = state
on_parent state (Some (Ok found)) change = change found.0 found.1

-- the i-number of the node that a call created, or 0 if it created none (this project)
abbrev pub made_number : Done → ℕ
made_number (Made i) = i
made_number (Wrote n) = 0
made_number Plain = 0

-- the state after a call, except for the super-block's time (Lions; mkdir, rmdir)
unfoldable pub changed_by : State → Call → Done → State
changed_by state (Create cred now path perm) done =
    on_parent state (walk_parent state.tree cred path) (after_create state cred now perm Regular (made_number done))
changed_by state (Mkdir cred now path perm) done =
    on_parent state (walk_parent state.tree cred path) (after_mkdir state cred now perm (made_number done))
changed_by state (Link cred now source target) done =
    on_node state (walk state.tree cred source) (λ i. on_parent state (walk_parent state.tree cred target) (after_link state now i))
changed_by state (Unlink cred now path) done = on_parent state (walk_parent state.tree cred path) (after_unlink state now)
changed_by state (Rmdir cred now path) done = on_parent state (walk_parent state.tree cred path) (after_rmdir state now)
changed_by state (Write cred now path offset bytes) done = on_node state (walk state.tree cred path) (after_write state now offset bytes)
changed_by state (Truncate cred now path size) done = on_node state (walk state.tree cred path) (after_truncate state now size)
changed_by state (Chmod cred now path perm) done = on_node state (walk state.tree cred path) (after_chmod state now perm)
changed_by state (Chown cred now path uid gid) done = on_node state (walk state.tree cred path) (after_chown state now uid gid)
changed_by state (Times cred now path atime mtime) done = on_node state (walk state.tree cred path) (after_utime state now atime mtime)
changed_by state (Mknod cred now path perm device) done =
    on_parent state (walk_parent state.tree cred path) (after_create state cred now perm (Special device) (made_number done))

-- the time of a call (this project)
abbrev pub moment_of : Call → ℕ
moment_of (Create cred now path perm) = now
moment_of (Mkdir cred now path perm) = now
moment_of (Link cred now source target) = now
moment_of (Unlink cred now path) = now
moment_of (Rmdir cred now path) = now
moment_of (Write cred now path offset bytes) = now
moment_of (Truncate cred now path size) = now
moment_of (Chmod cred now path perm) = now
moment_of (Chown cred now path uid gid) = now
moment_of (Times cred now path atime mtime) = now
moment_of (Mknod cred now path perm device) = now

-- the state after an accepted call, which always sets the super-block's time (this project)
abbrev pub step : State → Call → Done → State
step state call done = at_time (moment_of call) (changed_by state call done)
