-- Looking up paths (Lions on namei).
use Rattle.std.specs.Prelude.{◌≡◌, ℕ, ◌≤◌, ◌==◌, ◌&&◌, Bool, true, false, not, if◌then◌else◌, List, [], ◌∷◌, length, map, filter, take, Option, None, Some, Result, Ok, Err}
use Rattle.std.specs.List.{list_any}
use Rattle.std.specs.Option.{option_map, option_map_or, ok_or, is_some}
use Rattle.pdp_words.specs.Steps.{and_then}
use Rattle.vol_layout.specs.Edition.{constants}
use Rattle.vol_dir.specs.Access.{grants, may_execute}
use Rattle.vol_dir.specs.Names.{Names, get}
use Rattle.vol_dir.specs.Tree.{Content, Body, Directory, Device, Node, Tree}
use Rattle.vol_dir.specs.declared.cred.Cred.{Cred}
use Rattle.vol_dir.specs.declared.refusal.Refusal.{Refusal}
use Rattle.vol_dir.specs.declared.refusal.Refusal.TheVariants as refusals

-- the root's i-number (manual section 5, file system)
abbrev pub root : Tree → ℕ
root tree = (constants tree.geometry.edition).root

-- a list of pieces with a byte added in front of the first piece (this project)
abbrev pub onto_first : ℕ → List (List ℕ) → List (List ℕ)
onto_first c [] = (c ∷ []) ∷ []
onto_first c (piece ∷ pieces) = (c ∷ piece) ∷ pieces

-- the parts of a path between slashes, including empty ones (Lions on namei)
abbrev pub pieces : List ℕ → List (List ℕ)
pieces [] = [] ∷ []
pieces (c ∷ path) = if c == 47 then [] ∷ pieces path else onto_first c (pieces path)

-- true if a list is empty (this project)
abbrev pub is_nil : {X : Type 0} → List X → Bool
is_nil [] = true
is_nil (x ∷ xs) = false

-- the components of a path: its non-empty parts between slashes, each cut to 14 bytes (Lions on namei)
unfoldable pub components : List ℕ → List (List ℕ)
components path = map (take 14) (filter (λ piece. not (is_nil piece)) (pieces path))

-- true if a path or a name has a zero byte (this project)
abbrev pub has_zero : List ℕ → Bool
has_zero bytes = list_any (λ c. c == 0) bytes

-- a component has 1 to 14 bytes, none of them a slash (Lions on namei)
pub record IsComponent (name : List ℕ) : Type 0 where
  pub some : 1 ≤ length name
  pub short : length name ≤ 14
  pub plain : list_any (λ c. c == 47) name ≡ false

-- true if a name is not empty and has no slash (manual section 5, directories; the rule is this project's)
abbrev pub is_plain : List ℕ → Bool
is_plain name = not (is_nil name) && not (list_any (λ c. c == 47) name)

-- the map of a directory; None for another kind of node (manual section 5, directories)
abbrev pub map_of : Content → Option Names
map_of (Directory names) = Some names
map_of (Body bytes) = None
map_of (Device type addresses) = None

-- true if a node is a directory (manual section 5, file system)
abbrev pub is_directory : Node → Bool
is_directory node = is_some (map_of node.content)

-- the map of a node if it is a directory that may be searched, else the refusal (Lions on namei)
abbrev pub search_node : Cred → Node → Result Names Refusal
search_node cred node =
    option_map_or (λ names. if grants may_execute cred node then Ok names else Err refusals.Access)
    (map_of node.content) (Err refusals.NotDirectory)

-- the map of the node with i-number i if it is a directory that may be searched, else the refusal (Lions on namei)
abbrev pub search : Tree → Cred → ℕ → Result Names Refusal
search tree cred i = option_map_or (search_node cred) (tree.nodes i) (Err refusals.NotDirectory)

-- one step of a walk: the node must be a directory, grant execute, and have the name (Lions on namei)
abbrev pub find_in : Tree → Cred → ℕ → List ℕ → Result ℕ Refusal
find_in tree cred i name = and_then (search tree cred i) (λ names. ok_or (get names name) refusals.NoEntry)

-- the walk from a node along a list of names (Lions on namei)
abbrev pub walk_from : Tree → Cred → ℕ → List (List ℕ) → Result ℕ Refusal
walk_from tree cred i [] = Ok i
walk_from tree cred i (name ∷ names) = and_then (find_in tree cred i name) (λ next. walk_from tree cred next names)

-- the i-number of the node at a path, or the refusal; every path starts at the root (Lions on namei)
unfoldable pub walk : Tree → Cred → List ℕ → Result ℕ Refusal
walk tree cred path = walk_from tree cred (root tree) (components path)

-- all items but the last, and the last item; None for an empty list (this project)
abbrev pub split_last : {X : Type 0} → List X → Option (List X × X)
split_last [] = None
split_last (x ∷ xs) = Some (option_map_or (λ parts. (x ∷ parts.0, parts.1)) (split_last xs) ([], x))

-- the parent directory at the end of a walk along all names but the last, if it may be searched, and the last name (Lions on namei)
abbrev pub parent_from : Tree → Cred → List (List ℕ) × List ℕ → Result (ℕ × List ℕ) Refusal
parent_from tree cred names =
    and_then (walk_from tree cred (root tree) names.0) (λ i. and_then (search tree cred i) (λ _. Ok (i, names.1)))

-- the parent directory and the last name of a list of names; None if the list is empty (Lions on namei)
abbrev pub parent_over : Tree → Cred → List (List ℕ) → Option (Result (ℕ × List ℕ) Refusal)
parent_over tree cred names = option_map (parent_from tree cred) (split_last names)

-- the parent directory of a path and its last name; None for a path without components (Lions on namei)
unfoldable pub walk_parent : Tree → Cred → List ℕ → Option (Result (ℕ × List ℕ) Refusal)
walk_parent tree cred path = parent_over tree cred (components path)
