-- Visiting the blocks of a file.
use Rattle.std.specs.Prelude.{◌≡◌, ℕ, ◌+◌, ◌*◌, ◌<◌, List, length, slice_index}
use Rattle.std.specs.Fn.{Called, Mut}
use Rattle.std.specs.Borrow.{Bor}
use Rattle.vol_layout.specs.Body.{body_byte}
use Rattle.vol_layout.specs.declared.geometry.Geometry.{Geometry}

-- the 512 bytes of logical block b of file i; zeros for a hole (Lions on bmap)
pub record IsBlock (geometry : Geometry) (image : List ℕ) (i b : ℕ) (bytes : List ℕ) : Type 0 where
  pub len : length bytes ≡ 512
  pub at : (r : ℕ) → r < 512 → slice_index bytes r ≡ body_byte geometry image i (512 * b + r)

-- a call of a visitor with the bytes of logical block b of file i changes its state from p to q (this project)
pub record Visits {F : Type 0} (visitor : Mut F (Bor (List ℕ) × Unit {0}) (Unit {0})) (geometry : Geometry) (image : List ℕ) (i : ℕ) (p : F) (b : ℕ) (q : F) : Type 0 where
  pub shown : Bor (List ℕ)
  pub block : IsBlock geometry image i b shown.now
  pub called : Called visitor p (shown, tt) tt q
