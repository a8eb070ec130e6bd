-- Finding names again, from a node upwards.
use Rattle.std.proofs.Common.{◌≡◌, ◌∙◌, ap, ℕ, zero, suc, ◌-◌, ◌≤◌, ◌==◌, arith, List, Option, None, Some}
use Rattle.std.specs.Prelude.{Bool, true, false, ◌||◌, if◌then◌else◌, slice_get}
use Rattle.vol_layout.specs.Edition.{constants}
use Rattle.vol_layout.specs.declared.geometry.Geometry.{Geometry}
use Rattle.vol_dir.specs.Tree.{tree}
use Rattle.vol_mounted.specs.Numbers.{met}
use Rattle.vol_mounted.specs.Paths.{place_of}
use Rattle.vol_mounted.specs.Records.{place_for, leads_there, met_at, met_again}
use Rattle.vol_mounted.specs.declared.known.KnownNode.{KnownNode}

-- true if the search ends at node i: it is the root, or its last known name leads to it
abbrev pub ends_at : Geometry → List ℕ → List KnownNode → ℕ → Bool
ends_at geometry image nodes i =
    (i == (constants geometry.edition).root) || leads_there (tree geometry image) i (place_of (slice_get nodes i))

-- if no step is left, the records stay
pub met_none : (geometry : Geometry) (image : List ℕ) (steps : ℕ) (nodes : List KnownNode) (i : ℕ) → steps ≡ 0
    → met_again geometry image steps nodes i ≡ nodes
unfolding met_again
met_none geometry image zero nodes i none = ap (λ (k : ℕ). nodes) none
met_none geometry image (suc steps) nodes i none = absurd (omega arith)

-- if the search ends at the node, the records stay
pub met_end : (geometry : Geometry) (image : List ℕ) (steps : ℕ) (nodes : List KnownNode) (i : ℕ) → 1 ≤ steps
    → ends_at geometry image nodes i ≡ true → met_again geometry image steps nodes i ≡ nodes
unfolding met_again
met_end geometry image zero nodes i some ends = absurd (omega arith)
met_end geometry image (suc steps) nodes i some ends =
    ap (λ (b : Bool). if b then nodes else met_at nodes i (place_for geometry image i) (λ more directory. met_again geometry image steps more directory)) ends

-- if the node has no name, the records stay
pub met_nowhere : (geometry : Geometry) (image : List ℕ) (steps : ℕ) (nodes : List KnownNode) (i : ℕ) → 1 ≤ steps
    → ends_at geometry image nodes i ≡ false → place_for geometry image i ≡ None → met_again geometry image steps nodes i ≡ nodes
unfolding met_again
met_nowhere geometry image zero nodes i some goes none = absurd (omega arith)
met_nowhere geometry image (suc steps) nodes i some goes none =
    ap (λ (b : Bool). if b then nodes else met_at nodes i (place_for geometry image i) (λ more directory. met_again geometry image steps more directory)) goes
    ∙ ap (λ (place : Option (ℕ × List ℕ)). met_at nodes i place (λ more directory. met_again geometry image steps more directory)) none

-- otherwise the search goes on at the directory of the node's first name
pub met_up : (geometry : Geometry) (image : List ℕ) (steps : ℕ) (nodes : List KnownNode) (i directory : ℕ) (name : List ℕ) → 1 ≤ steps
    → ends_at geometry image nodes i ≡ false → place_for geometry image i ≡ Some (directory, name)
    → met_again geometry image steps nodes i ≡ met_again geometry image (steps - 1) (met nodes i directory name) directory
unfolding met_again
met_up geometry image zero nodes i directory name some goes at = absurd (omega arith)
met_up geometry image (suc steps) nodes i directory name some goes at =
    let left : steps ≡ suc steps - 1 = omega arith in
    ap (λ (b : Bool). if b then nodes else met_at nodes i (place_for geometry image i) (λ more directory. met_again geometry image steps more directory)) goes
    ∙ (ap (λ (place : Option (ℕ × List ℕ)). met_at nodes i place (λ more directory. met_again geometry image steps more directory)) at
    ∙ ap (λ k. met_again geometry image k (met nodes i directory name) directory) left)
