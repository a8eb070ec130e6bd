-- Changes of the permissions of a file or directory.
use Rattle.std.specs.Prelude.{ℕ, bit_and, bit_or}
use Rattle.command_terms.specs.declared.permissions.PermissionChange.{PermissionChange}

-- the permissions after a change, by those before it: the bits that are kept of these, and the bits that are set (chmod)
unfoldable pub changed_permissions : PermissionChange → ℕ → ℕ
changed_permissions change permissions = bit_or (bit_and permissions change.kept) change.set

-- the change to these permissions, whatever they were before (chmod)
abbrev pub change_to : ℕ → PermissionChange
change_to permissions = record { kept = 0; set = permissions }

-- a change, and then another: a bit is kept if both keep it, and set if the second sets it, or if the first does and the second keeps it (this project)
abbrev pub followed_by : PermissionChange → PermissionChange → PermissionChange
followed_by first second = record {
  kept = bit_and first.kept second.kept;
  set = bit_or (bit_and first.set second.kept) second.set;
}
