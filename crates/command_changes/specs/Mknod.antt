-- The calls that make a special file, and what they leave.
use Rattle.std.specs.Prelude.{◌≡◌, ℕ, ◌%◌, List, ◌∷◌, Option, Some, Ok}
use Rattle.vol_layout.specs.declared.mode.DeviceId.{DeviceId}
use Rattle.vol_dir.specs.Access.{user}
use Rattle.vol_dir.specs.Tree.{Node, Tree}
use Rattle.vol_dir.specs.declared.cred.Cred.{Cred}
use Rattle.vol_change.specs.Edits.{new_content}
use Rattle.vol_change.specs.declared.new_nodes.NewFile.TheVariants.{Special}
use Rattle.vol_volume.specs.Answer.{answer}
use Rattle.vol_volume.specs.declared.calls.Call.{Call}
use Rattle.vol_volume.specs.declared.calls.Call.TheVariants as calls
use Rattle.vol_volume.specs.declared.queries.Query.TheVariants as queries
use Rattle.vol_volume.specs.declared.queries.Reply.TheVariants as replies
use Rattle.vol_volume.specs.declared.queries.Stat.{Stat}
use Rattle.command_terms.specs.Permissions.{changed_permissions}
use Rattle.command_terms.specs.declared.permissions.PermissionChange.{PermissionChange}
use Rattle.command_changes.specs.Owners.{IsOwned, owner_calls}

-- the call that makes the special file of a device, with the permissions that a change makes of 0644 (mknod)
abbrev pub mknod_call : ℕ → DeviceId → PermissionChange → List ℕ → Call
mknod_call now device change path = calls.Mknod user now path (changed_permissions change 0o644) device

-- the calls that make a special file and give it its owner, if one is given (mknod, chown)
abbrev pub mknod_calls : ℕ → DeviceId → PermissionChange → Option Cred → List ℕ → List Call
mknod_calls now device change owner path = mknod_call now device change path ∷ owner_calls owner now path

-- a path leads to the special file of this device, with these permissions, and with this owner if one is given (stat; mknod)
pub record HasSpecial (tree : Tree) (path : List ℕ) (device : DeviceId) (perm : ℕ) (owner : Option Cred) : Type 0 where
  pub stat : Stat
  pub found : answer tree (queries.Stat user path) ≡ Ok (replies.Stat stat)
  pub node : Node
  pub stands : tree.nodes stat.number ≡ Some node
  pub content : node.content ≡ new_content tree.geometry.edition (Special device)
  pub permissions : stat.permissions ≡ perm % 4096
  pub owned : IsOwned owner stat
