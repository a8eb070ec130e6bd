-- Lemmas on walks to the parent directory.
use Rattle.std.proofs.Common.{◌≡◌, ℕ, List, [], ◌∷◌, Some, Result, Ok, Err, refl, ap}
use Rattle.std.specs.Option.{option_map}
use Rattle.vol_layout.specs.Edition.{constants}
use Rattle.vol_layout.specs.declared.geometry.Geometry.{Geometry}
use Rattle.vol_dir.specs.Tree.{Tree, tree}
use Rattle.pdp_words.specs.Steps.{and_then}
use Rattle.vol_dir.specs.Walk.{components, search, find_in, walk_from, split_last, parent_over, walk_parent}
use Rattle.vol_dir.specs.declared.cred.Cred.{Cred}
use Rattle.vol_dir.specs.declared.refusal.Refusal.{Refusal}

-- the parent directory and the last name of a walk from node `i` over a name and then others
abbrev pub parent_walk : Tree → Cred → ℕ → List ℕ → List (List ℕ) → Result (ℕ × List ℕ) Refusal
parent_walk tree cred i name [] = and_then (search tree cred i) (λ _. Ok (i, name))
parent_walk tree cred i name (next ∷ names) = and_then (find_in tree cred i name) (λ j. parent_walk tree cred j next names)

-- the parent directory and the last name of a walk from node `i` over the names before the last, and the last
abbrev parent_at : Tree → Cred → ℕ → List (List ℕ) × List ℕ → Result (ℕ × List ℕ) Refusal
parent_at tree cred i names =
    and_then (walk_from tree cred i names.0) (λ k. and_then (search tree cred k) (λ _. Ok (k, names.1)))

split : (tree : Tree) (cred : Cred) (names : List (List ℕ)) (i : ℕ) (name : List ℕ)
    → option_map (parent_at tree cred i) (split_last (name ∷ names)) ≡ Some (parent_walk tree cred i name names)
split tree cred [] i name = refl
split tree cred (next ∷ names) i name =
    elim (find_in tree cred i name) as (λ r. option_map (λ (parts : List (List ℕ) × List ℕ). and_then (and_then r (λ j. walk_from tree cred j parts.0)) (λ k. and_then (search tree cred k) (λ _. Ok (k, parts.1)))) (split_last (next ∷ names)) ≡ Some (and_then r (λ j. parent_walk tree cred j next names))) [
      | Ok j ↦ split tree cred names j next
      | Err refusal ↦ refl
    ]

-- the walk to the parent directory begins at the root
pub parent-begins : (geometry : Geometry) (image : List ℕ) (cred : Cred) (name : List ℕ) (names : List (List ℕ))
    → parent_over (tree geometry image) cred (name ∷ names)
    ≡ Some (parent_walk (tree geometry image) cred (constants geometry.edition).root name names)
unfolding tree
parent-begins geometry image cred name names = split (tree geometry image) cred names (constants geometry.edition).root name

-- the parent directory of a path, computed from its components
pub walk_parent-over : (tree : Tree) (cred : Cred) (path : List ℕ) (names : List (List ℕ)) → components path ≡ names
    → walk_parent tree cred path ≡ parent_over tree cred names
unfolding walk_parent
walk_parent-over tree cred path names e = ap (parent_over tree cred) e
