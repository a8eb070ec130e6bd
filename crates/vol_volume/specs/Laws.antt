-- The laws of calls and journals, as statements.
use Rattle.std.specs.Prelude.{◌≡◌, ◌≢◌, ◌↔◌, ℕ, List, [], ◌∷◌, ◌++◌, Some, Ok}
use Rattle.vol_dir.specs.Tree.{Tree, State}
use Rattle.vol_dir.specs.Walk.{root, walk}
use Rattle.vol_volume.specs.Verdict.{verdict}
use Rattle.vol_change.specs.Edits.{at_time}
use Rattle.vol_volume.specs.Step.{step}
use Rattle.vol_volume.specs.Answer.{query_refusal}
use Rattle.vol_volume.specs.Journal.{after, IsLegal}
use Rattle.vol_volume.specs.Volume.{Mounted, IsConsistent, Accepts}
use Rattle.vol_dir.specs.declared.cred.Cred.{Cred}
use Rattle.vol_dir.specs.declared.refusal.Refusal.TheVariants as refusals
use Rattle.vol_volume.specs.declared.calls.Call.{Call}
use Rattle.vol_volume.specs.declared.calls.Call.TheVariants.{Write}
use Rattle.vol_volume.specs.declared.calls.Done.{Done}
use Rattle.vol_volume.specs.declared.calls.Record.{Record}
use Rattle.vol_volume.specs.declared.queries.Query.{Query}

-- each accepted call keeps a consistent volume consistent (this project)
abbrev pub KeepsConsistent : Type 0
KeepsConsistent = (old new : Mounted) (call : Call) (done : Done) → IsConsistent old → Accepts old new call done → IsConsistent new

-- replaying a journal is the same as replaying its first part and then its second (this project)
abbrev pub LeadsInParts : Type 0
LeadsInParts = (state : State) (front rest : List Record) → after state (front ++ rest) ≡ after (after state front) rest

-- a journal is legal if and only if its first part is legal, and its second part is legal after the first is replayed (this project)
abbrev pub IsLegalInParts : Type 0
IsLegalInParts = (state : State) (front rest : List Record)
    → IsLegal state (front ++ rest) ↔ (IsLegal state front × IsLegal (after state front) rest)

-- a call is never refused with NoMemory because of the state of a volume (this project)
abbrev pub HasMemory : Type 0
HasMemory = (state : State) (call : Call) → verdict state call ≢ Some refusals.NoMemory

-- a query is never refused with NoMemory because of the tree (this project)
abbrev pub HasMemoryForQueries : Type 0
HasMemoryForQueries = (tree : Tree) (query : Query) → query_refusal tree query ≢ Some refusals.NoMemory

-- a write of no bytes changes only the super-block's time (Lions on writei; the time is this project's)
abbrev pub WritesNothing : Type 0
WritesNothing = (state : State) (cred : Cred) (now offset : ℕ) (path : List ℕ) (done : Done)
    → step state (Write cred now path offset []) done ≡ at_time now state

-- the empty path leads to the root, and so does `/` (this project)
abbrev pub LeadsToRoot : Type 0
LeadsToRoot = (tree : Tree) (cred : Cred) → (walk tree cred [] ≡ Ok (root tree)) × (walk tree cred (47 ∷ []) ≡ Ok (root tree))
