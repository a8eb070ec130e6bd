-- Paths below other paths, and what paths lead to.
use Rattle.std.specs.Prelude.{◌≡◌, ℕ, List, ◌∷◌, ◌++◌, Ok, length}
use Rattle.vol_layout.specs.declared.mode.Kind.TheVariants as kinds
use Rattle.vol_dir.specs.Access.{user}
use Rattle.vol_dir.specs.Tree.{Tree}
use Rattle.vol_volume.specs.Answer.{answer, read_bytes}
use Rattle.vol_volume.specs.declared.queries.Query.TheVariants as queries
use Rattle.vol_volume.specs.declared.queries.Reply.TheVariants as replies
use Rattle.vol_volume.specs.declared.queries.Stat.{Stat}

-- the path of a name, or of a longer path, below another path (this project)
abbrev pub below : List ℕ → List ℕ → List ℕ
below base path = base ++ 47 ∷ path

-- a path leads to a regular file with these bytes: a Stat says that it is a regular file, and a Read from any offset returns the bytes after the
-- offset (stat, read)
pub record HasFile (tree : Tree) (path bytes : List ℕ) : Type 0 where
  pub stat : Stat
  pub found : answer tree (queries.Stat user path) ≡ Ok (replies.Stat stat)
  pub kind : stat.kind ≡ kinds.Regular
  pub size : stat.size ≡ length bytes
  pub read : (offset len : ℕ) → answer tree (queries.Read user path offset len) ≡ Ok (replies.Bytes (read_bytes bytes offset len))

-- a path leads to a directory (stat)
pub record HasDirectory (tree : Tree) (path : List ℕ) : Type 0 where
  pub stat : Stat
  pub found : answer tree (queries.Stat user path) ≡ Ok (replies.Stat stat)
  pub kind : stat.kind ≡ kinds.Directory
