-- The law about the calls that remove a path, as a statement.
use Rattle.std.specs.Prelude.{◌≡◌, ℕ, List}
use Rattle.vol_dir.specs.Tree.{Tree}
use Rattle.vol_volume.specs.declared.calls.Call.{Call}
use Rattle.vol_batch.specs.Removal.{IsRemoval}

-- any two lists of calls that remove a path are equal (this project)
abbrev pub IsOneRemoval : Type 0
IsOneRemoval = (tree : Tree) (path : List ℕ) (now : ℕ) (calls others : List Call) → IsRemoval tree path now calls → IsRemoval tree path now others
    → calls ≡ others
