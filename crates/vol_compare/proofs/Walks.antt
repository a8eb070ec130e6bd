-- What is met in a tree.
use Rattle.std.proofs.Common.{◌≡◌, sym, subst, ℕ, true, false, List, []}
use Rattle.vol_judge.specs.Directories.{root_of}
use Rattle.vol_layout.specs.declared.geometry.Geometry.{Geometry}
use Rattle.vol_archive.specs.Export.{is_directory}
use Rattle.vol_archive.specs.Walk.{IsWalk}
use Rattle.vol_archive.specs.declared.met_entries.MetEntry.{MetEntry}
use Rattle.vol_compare.specs.Members.{AreMet, AreMetIf}

-- if the root is a directory, a walk from it meets all
pub met_directory : (g : Geometry) (image : List ℕ) (founds : List MetEntry) → is_directory g image (root_of g) ≡ true → IsWalk g image (root_of g) founds
    → AreMet g image founds
met_directory g image founds is walk = subst (λ t. AreMetIf t g image founds) (sym is) walk

-- if the root is no directory, nothing is met
pub met_nothing : (g : Geometry) (image : List ℕ) (founds : List MetEntry) → is_directory g image (root_of g) ≡ false → founds ≡ [] → AreMet g image founds
met_nothing g image founds is none = subst (λ t. AreMetIf t g image founds) (sym is) none
