-- The call of `chmod`, and the permissions that it leaves.
use Rattle.std.specs.Prelude.{◌≡◌, ℕ, ◌%◌, List, Ok}
use Rattle.vol_dir.specs.Access.{user}
use Rattle.vol_dir.specs.Tree.{Tree}
use Rattle.vol_volume.specs.Answer.{answer}
use Rattle.vol_volume.specs.declared.calls.Call.{Call}
use Rattle.vol_volume.specs.declared.calls.Call.TheVariants as calls
use Rattle.vol_volume.specs.declared.queries.Query.TheVariants as queries
use Rattle.vol_volume.specs.declared.queries.Reply.TheVariants as replies
use Rattle.vol_volume.specs.declared.queries.Stat.{Stat}
use Rattle.command_terms.specs.Permissions.{changed_permissions}
use Rattle.command_terms.specs.declared.permissions.PermissionChange.{PermissionChange}
use Rattle.command_changes.specs.Put.{permissions_of, target_by}

-- the call that makes this change of the permissions at a path, decided on the unchanged tree. If the path leads to no node, the call is refused,
-- whatever its permissions are (chmod)
abbrev pub chmod_call : Tree → ℕ → List ℕ → PermissionChange → Call
chmod_call tree now path change =
    calls.Chmod user now path (changed_permissions change (permissions_of (target_by (answer tree (queries.Stat user path)))))

-- a path leads to a node in both trees, and its permissions in the new one are those that the change makes of the old ones (stat, chmod)
pub record HasPermissions (old : Tree) (path : List ℕ) (change : PermissionChange) (new : Tree) : Type 0 where
  pub before : Stat
  pub was : answer old (queries.Stat user path) ≡ Ok (replies.Stat before)
  pub after : Stat
  pub is : answer new (queries.Stat user path) ≡ Ok (replies.Stat after)
  pub changed : after.permissions ≡ changed_permissions change before.permissions % 4096
