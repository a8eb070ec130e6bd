-- Properties of each directory before an i-number.
use Rattle.std.proofs.Common.{ℕ, ◌+◌, ◌<◌, List}
use borrow.Author.Count.{below_more}
use Rattle.vol_layout.specs.declared.geometry.Geometry.{Geometry}
use Rattle.vol_dir.specs.Entries.{IsDirectory}

-- a property of all directories before d, and of d if it is a directory, holds for all up to d
pub directories_more : {geometry : Geometry} {image : List ℕ} (P : ℕ → Type 0) (d : ℕ) → ((e : ℕ) → e < d → IsDirectory geometry image e → P e)
    → (IsDirectory geometry image d → P d) → (e : ℕ) → e < d + 1 → IsDirectory geometry image e → P e
directories_more {geometry = geometry} {image = image} P d below here = below_more (λ e. IsDirectory geometry image e → P e) d below here
