-- The owner that new files and directories get.
use Rattle.std.specs.Prelude.{◌≡◌, ℕ, List, [], ◌∷◌, Option, None, Some}
use Rattle.vol_dir.specs.Access.{user}
use Rattle.vol_dir.specs.declared.cred.Cred.{Cred}
use Rattle.vol_volume.specs.declared.calls.Call.{Call}
use Rattle.vol_volume.specs.declared.calls.Call.TheVariants as calls
use Rattle.vol_volume.specs.declared.queries.Stat.{Stat}

-- the call that gives the node at a path its owner, if one is given (chown)
abbrev pub owner_calls : Option Cred → ℕ → List ℕ → List Call
owner_calls None now path = []
owner_calls (Some owner) now path = calls.Chown user now path owner.uid owner.gid ∷ []

-- a Stat says this user and group, if they are given (stat)
abbrev pub IsOwned : Option Cred → Stat → Type 0
IsOwned None stat = Unit {0}
IsOwned (Some owner) stat = (stat.uid ≡ owner.uid) × (stat.gid ≡ owner.gid)
