-- The part of the graph of directories that a change of one directory's entries leaves unchanged.
use Rattle.std.specs.Prelude.{◌≡◌, ◌≢◌, ℕ}
use Rattle.vol_judge.specs.Graph.{Graph}
use Rattle.vol_layout.specs.declared.mode.Kind.TheVariants as kinds

-- only the size and the entries of directory d may change: all kinds are unchanged, and so are the link counts of i-nodes in use and the sizes and
-- entries of other directories (Lions on wdir, unlink)
pub record StaysBeside (old new : Graph) (d : ℕ) : Type 0 where
  pub kind : (x : ℕ) → new.kind x ≡ old.kind x
  pub links : (x : ℕ) → old.kind x ≢ kinds.Free → new.links x ≡ old.links x
  pub size : (x : ℕ) → x ≢ d → old.kind x ≡ kinds.Directory → new.size x ≡ old.size x
  pub entry : (x s : ℕ) → x ≢ d → new.entry x s ≡ old.entry x s
