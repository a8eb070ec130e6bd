-- The callers' view of a shared volume.
use Rattle.std.specs.Prelude.{ℕ}
use Rattle.vol_shared.specs.Sessions.{Identity}
use Rattle.vol_shared.specs.Stored.{Stored}

-- a shared volume: its identity, the volume that was opened, and the numbers of its sessions and views (this project)
pub record Opened : Type 0 where
  pub of : Identity
  pub stored : Stored
  pub sessions : ℕ
  pub views : ℕ
