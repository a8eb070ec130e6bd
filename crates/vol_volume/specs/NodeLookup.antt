-- Finding the node or the parent of a call or a query.
use Rattle.std.specs.Prelude.{◌≡◌, ℕ, Bool, List, [], ◌∷◌, Option, Some, Ok}
use Rattle.vol_dir.specs.Tree.{Tree}
use Rattle.vol_dir.specs.Walk.{walk, walk_parent}
use Rattle.vol_volume.specs.Verdict.{first_of, then_others, of_node, of_parent}
use Rattle.vol_dir.specs.declared.cred.Cred.{Cred}
use Rattle.vol_dir.specs.declared.refusal.Refusal.{Refusal}

-- a path is refused, for any checks of the node at its end (this project)
abbrev pub IsPathRefused : Tree → Cred → List ℕ → Refusal → Type 0
IsPathRefused tree cred path refusal =
    (others : ℕ → Option Refusal) → then_others tree cred (path ∷ []) (of_node (walk tree cred path) others) ≡ Some refusal

-- a path leads to node i, and the checks of that node decide the refusal (this project)
pub record LeadsTo (tree : Tree) (cred : Cred) (path : List ℕ) (i : ℕ) : Type 0 where
  pub walked : walk tree cred path ≡ Ok i
  pub asked : (others : ℕ → Option Refusal) → then_others tree cred (path ∷ []) (of_node (walk tree cred path) others) ≡ others i

-- a path is refused, for any checks of its parent and last name (this project)
abbrev pub IsParentRefused : Tree → Cred → List ℕ → Refusal → Refusal → Type 0
IsParentRefused tree cred path bare refusal =
    (tests : ℕ → List ℕ → List (Bool × Refusal)) → then_others tree cred (path ∷ []) (of_parent (walk_parent tree cred path) bare tests) ≡ Some refusal

-- a path leads to directory d and the last name `name`, and the checks of these two decide the refusal (this project)
abbrev pub IsParentAsked : Tree → Cred → List ℕ → Refusal → ℕ → List ℕ → Type 0
IsParentAsked tree cred path bare d name =
    (tests : ℕ → List ℕ → List (Bool × Refusal)) → then_others tree cred (path ∷ []) (of_parent (walk_parent tree cred path) bare tests) ≡ first_of (tests d name)
