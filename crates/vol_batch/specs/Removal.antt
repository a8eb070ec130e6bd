-- The calls that remove a path and everything below it.
use Rattle.std.specs.Prelude.{◌≡◌, ℕ, true, if◌then◌else◌, List, [], ◌∷◌, ◌++◌, Option, None, Some, Result, Ok, Err, is_ok}
use Rattle.std.specs.List.{flat_map}
use Rattle.vol_dir.specs.Names.{Names, is_dots}
use Rattle.vol_dir.specs.Tree.{Tree}
use Rattle.vol_volume.specs.Answer.{answer}
use Rattle.vol_batch.specs.Paths.{below}
use Rattle.vol_dir.specs.declared.refusal.Refusal.{Refusal}
use Rattle.vol_dir.specs.Access.{user}
use Rattle.vol_volume.specs.declared.calls.Call.{Call}
use Rattle.vol_volume.specs.declared.calls.Call.TheVariants.{Unlink, Rmdir}
use Rattle.vol_volume.specs.declared.queries.Query.TheVariants.{Stat, List as ListNames}
use Rattle.vol_volume.specs.declared.queries.Reply.{Reply}
use Rattle.vol_volume.specs.declared.queries.Reply.TheVariants as replies
use Rattle.vol_batch.specs.declared.faults.RemovalFault.{RemovalFault}
use Rattle.vol_batch.specs.declared.faults.RemovalFault.TheVariants as faults

-- the names that a List returns; None if the List is refused (this project)
abbrev pub listed : Result Reply Refusal → Option Names
listed (Ok (replies.Names names)) = Some names
listed (Ok (replies.Stat stat)) = None
listed (Ok (replies.Bytes bytes)) = None
listed (Err refusal) = None

-- the names of the directory to which a path leads, in ascending order; None if it leads to no directory (Lions on namei)
abbrev pub names_of : Tree → List ℕ → Option Names
names_of tree path = listed (answer tree (ListNames user path))

-- the path of a name below a path; no path for `.` and `..` (rm)
abbrev pub path_of : List ℕ → List ℕ → List (List ℕ)
path_of path name = if is_dots name then [] else below path name ∷ []

-- the paths of the entries in the directory to which a path leads (rm)
abbrev pub paths_of : List ℕ → Option Names → List (List ℕ)
paths_of path None = []
paths_of path (Some names) = flat_map (λ (entry : List ℕ × ℕ). path_of path entry.0) names

-- the call that removes a path: an Rmdir for a directory, else an Unlink (rm, rmdir)
abbrev pub call_of : ℕ → List ℕ → Option Names → Call
call_of now path (Some names) = Rmdir user now path
call_of now path None = Unlink user now path

-- calls remove all paths in order: for each path first everything below it, and then the path itself (rm)
pub data Takes (tree : Tree) (now : ℕ) : List (List ℕ) → List Call → Type 0 where
  none : Takes tree now [] []
  next : (path : List ℕ) (rest : List (List ℕ)) (inner others : List Call)
      → Takes tree now (paths_of path (names_of tree path)) inner → Takes tree now rest others
      → Takes tree now (path ∷ rest) (inner ++ call_of now path (names_of tree path) ∷ others)

-- a path leads somewhere (stat)
abbrev pub IsFound : Tree → List ℕ → Type 0
IsFound tree path = is_ok (answer tree (Stat user path)) ≡ true

-- the path leads somewhere, and the calls remove it and everything below it (rm)
pub record IsRemoval (tree : Tree) (path : List ℕ) (now : ℕ) (calls : List Call) : Type 0 where
  pub found : IsFound tree path
  pub takes : Takes tree now (path ∷ []) calls

-- the reason why there are no calls to remove a path: a Stat of the path is refused, or memory runs out (this project)
abbrev pub IsNotFound : Tree → List ℕ → RemovalFault → Type 0
IsNotFound tree path (faults.Missing refusal) = answer tree (Stat user path) ≡ Err refusal
IsNotFound tree path faults.NoMemory = Unit {0}
IsNotFound tree path (faults.Unsound rule) = ⊥
IsNotFound tree path (faults.Refused refusal call) = ⊥

-- the fault when memory runs out (this project)
abbrev pub no_memory : RemovalFault
no_memory = faults.NoMemory
