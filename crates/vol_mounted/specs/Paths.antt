-- The paths of nodes, by their last known names.
use Rattle.std.specs.Prelude.{ℕ, zero, suc, ◌==◌, Bool, false, nat_lt, if◌then◌else◌, List, [], ◌∷◌, ◌++◌, length, slice_get, Option, None, Some, Result, Ok, Err}
use Rattle.std.specs.Option.{ok_or}
use Rattle.vol_dir.specs.Walk.{is_plain, walk}
use Rattle.vol_layout.specs.Edition.{constants}
use Rattle.vol_layout.specs.Slot.{name_of}
use Rattle.vol_layout.specs.declared.geometry.Geometry.{Geometry}
use Rattle.vol_dir.specs.Access.{user}
use Rattle.vol_dir.specs.Tree.{tree}
use Rattle.vol_dir.specs.declared.refusal.Refusal.{Refusal}
use Rattle.vol_serve.specs.declared.nodes.fault.NodeFault.TheVariants as faults
use Rattle.vol_serve.specs.declared.errno.RequestRefusal.TheVariants as requests
use Rattle.pdp_words.specs.Steps.{and_then}
use Rattle.vol_mounted.specs.Refusals.{no_node}
use Rattle.vol_mounted.specs.declared.refusal.MountedRefusal.{MountedRefusal}
use Rattle.vol_mounted.specs.declared.refusal.MountedRefusal.TheVariants.{Request}
use Rattle.vol_mounted.specs.declared.known.KnownNode.{KnownNode}

-- the directory and the name by which a node was last found, if any (this project)
abbrev pub place_of : Option KnownNode → Option (ℕ × List ℕ)
place_of None = None
place_of (Some known) = if known.slot.inode == 0 then None else Some (known.directory, name_of known.slot.name)

-- a function's result for a directory and a name, if they are known (this project)
abbrev pub at_place : {X : Type 0} → Option (ℕ × List ℕ) → (ℕ → List ℕ → Option X) → Option X
at_place None next = None
at_place (Some place) next = next place.0 place.1

-- the path from the root to node i, followed by `rest`; it is found by walking up a limited number of directories (this project)
unfoldable pub climb : List KnownNode → ℕ → ℕ → ℕ → List ℕ → Option (List ℕ)
climb nodes root zero i rest = None
climb nodes root (suc steps) i rest =
    if i == root then Some rest
    else at_place (place_of (slice_get nodes i)) (λ directory name. climb nodes root steps directory (47 ∷ (name ++ rest)))

-- true if a walk leads to node i (Lions on namei)
abbrev pub leads_to : Result ℕ Refusal → ℕ → Bool
leads_to (Ok found) i = found == i
leads_to (Err refusal) i = false

-- a path, if a walk along it leads to node i, for user 0 (Lions on namei)
abbrev pub if_leading : Geometry → List ℕ → ℕ → Option (List ℕ) → Option (List ℕ)
if_leading geometry image i None = None
if_leading geometry image i (Some path) = if leads_to (walk (tree geometry image) user path) i then Some path else None

-- the path of node i by the last known names, if these lead to it (this project)
abbrev pub path_in : Geometry → List ℕ → List KnownNode → ℕ → Option (List ℕ)
path_in geometry image nodes i =
    if_leading geometry image i (climb nodes (constants geometry.edition).root (length nodes) i [])

-- the path of node i, or Stale if the kernel has to look the node up again (errno.h: ESTALE)
abbrev pub path_to : Geometry → List ℕ → List KnownNode → ℕ → Result (List ℕ) MountedRefusal
path_to geometry image nodes i = ok_or (path_in geometry image nodes i) (no_node faults.Stale)

-- the path of a name in directory d; no name is cut, and none has a slash (this project)
abbrev pub path_of_name : Geometry → List ℕ → List KnownNode → ℕ → List ℕ → Result (List ℕ) MountedRefusal
path_of_name geometry image nodes d name =
    if nat_lt 14 (length name) then Err (no_node faults.LongName)
    else if is_plain name then and_then (path_to geometry image nodes d) (λ path. Ok (path ++ 47 ∷ name))
    else Err (Request requests.Malformed)
