-- Laws of paths and walks.
use Rattle.std.specs.Prelude.{◌≡◌, ℕ, List, [], ◌∷◌, ◌++◌, None, Ok}
use Rattle.vol_dir.specs.Tree.{Tree}
use Rattle.pdp_words.specs.Steps.{and_then}
use Rattle.vol_dir.specs.Walk.{root, components, walk_from, walk, walk_parent}
use Rattle.vol_dir.specs.declared.cred.Cred.{Cred}

-- the components of two paths joined by a slash are the components of the first, followed by those of the second (Lions on namei)
abbrev pub JoinsComponents : Type 0
JoinsComponents = (path rest : List ℕ) → components (path ++ 47 ∷ rest) ≡ components path ++ components rest

-- a slash at the start or the end of a path makes no difference, since every path begins at the root (Lions on namei)
abbrev pub HasNoOuterSlashes : Type 0
HasNoOuterSlashes = (path : List ℕ) → (components (47 ∷ path) ≡ components path) × (components (path ++ 47 ∷ []) ≡ components path)

-- several slashes in a row count as one (Lions on namei)
abbrev pub CountsSlashesOnce : Type 0
CountsSlashesOnce = (path rest : List ℕ) → components (path ++ 47 ∷ 47 ∷ rest) ≡ components (path ++ 47 ∷ rest)

-- a path without components is the root, and has no parent (Lions on namei)
abbrev pub BeginsAtRoot : Type 0
BeginsAtRoot = (tree : Tree) (cred : Cred) (path : List ℕ) → components path ≡ []
    → (walk tree cred path ≡ Ok (root tree)) × (walk_parent tree cred path ≡ None)

-- the walk along `path/rest` is the walk along `path`, continued from the node at its end along `rest` (Lions on namei)
abbrev pub WalksOn : Type 0
WalksOn = (tree : Tree) (cred : Cred) (path rest : List ℕ)
    → walk tree cred (path ++ 47 ∷ rest) ≡ and_then (walk tree cred path) (λ i. walk_from tree cred i (components rest))
