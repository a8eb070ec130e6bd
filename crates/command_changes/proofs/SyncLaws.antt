-- If `sync` has no call to make, all members of the tree are in the volume.
use Rattle.std.proofs.Common.{◌≡◌, ◌++◌, ◌∷◌, ℕ, Bool, true, false, true≢false, List, [], Option, None, Some, Ok, Err, ap, refl, sym}
use Rattle.std.specs.Prelude.{Result, if◌then◌else◌, string_bytes}
use Rattle.std.specs.List.{AllByRecursion}
use Rattle.vol_dir.specs.Access.{user}
use Rattle.vol_dir.specs.Tree.{Tree}
use Rattle.vol_dir.specs.declared.cred.Cred.{Cred}
use Rattle.vol_dir.specs.declared.refusal.Refusal.{Refusal}
use Rattle.vol_file.proofs.PlaceLists.{same_bytes}
use Rattle.vol_layout.specs.declared.mode.Kind.{Kind}
use Rattle.vol_layout.specs.declared.mode.Kind.TheVariants as modes
use Rattle.vol_volume.specs.Answer.{answer}
use Rattle.vol_volume.specs.declared.calls.Call.{Call}
use Rattle.vol_volume.specs.declared.queries.Query.TheVariants as queries
use Rattle.vol_volume.specs.declared.queries.Reply.{Reply}
use Rattle.vol_volume.specs.declared.queries.Reply.TheVariants as replies
use Rattle.vol_volume.specs.declared.queries.Stat.{Stat}
use Rattle.vol_import.specs.Plan.{and_next}
use Rattle.vol_import.specs.declared.import_plan.PlanFault.{PlanFault}
use Rattle.command_changes.specs.Laws.{IsThere, IsThereAt, SameTreesAreThere}
use Rattle.command_changes.specs.Lookup.{found_by, found_kind}
use Rattle.command_changes.specs.Put.{each_onto}
use Rattle.command_changes.specs.Sync.{apart, folder_calls, is_body, is_kept_by, is_long_name, member_onto, node_calls, place_of, shared_owner, step_calls, step_of}
use Rattle.command_changes.specs.declared.kept.GivenFile.{GivenFile}
use Rattle.command_changes.specs.declared.kept.Kept.{Kept}
use Rattle.command_changes.specs.declared.lookup.PathKind.{PathKind}
use Rattle.command_changes.specs.declared.lookup.PathKind.TheVariants as kinds
use Rattle.command_changes.specs.declared.sync.FileStep.TheVariants as steps
use Rattle.command_changes.specs.declared.sync.Syncing.{Syncing}
use Rattle.command_changes.specs.declared.sync.TreeMember.{TreeMember}
use Rattle.command_changes.specs.declared.sync.TreeNode.{TreeNode}
use Rattle.command_changes.specs.declared.sync.TreeNode.TheVariants as nodes
use Rattle.command_changes.specs.declared.sync.Unchanged.{Unchanged}
use Rattle.command_changes.specs.declared.sync.Unchanged.TheVariants as unchanged

-- a list with items in it isn't empty
filled : {X : Type 0} (x : X) (xs : List X) → x ∷ xs ≡ [] → ⊥
filled x xs is = absurd (cc)

-- lists that are empty together are both empty
front_empty : {X : Type 0} (xs ys : List X) → xs ++ ys ≡ [] → xs ≡ []
front_empty [] ys is = refl
front_empty (x ∷ xs) ys is = absurd (filled x (xs ++ ys) is)

back_empty : {X : Type 0} (xs ys : List X) → xs ++ ys ≡ [] → ys ≡ []
back_empty [] ys is = is
back_empty (x ∷ xs) ys is = absurd (filled x (xs ++ ys) is)

-- a node of this kind is a directory if its path's kind is
kind_there : (kind : Kind) → found_kind kind ≡ kinds.Directory → kind ≡ modes.Directory
kind_there modes.Directory is = refl
kind_there modes.Regular is = absurd (cc)
kind_there modes.Special is = absurd (cc)
kind_there modes.Free is = absurd (cc)
kind_there modes.Odd is = absurd (cc)

-- if the answer to a Stat says a directory, it has the attributes of one
stat_there : (found : Result Reply Refusal) → found_by found ≡ kinds.Directory → (stat : Stat) × (found ≡ Ok (replies.Stat stat)) × (stat.kind ≡ modes.Directory)
stat_there (Ok (replies.Stat stat)) is = (stat, refl, kind_there stat.kind is)
stat_there (Ok (replies.Bytes bytes)) is = absurd (cc)
stat_there (Ok (replies.Names names)) is = absurd (cc)
stat_there (Err refusal) is = absurd (cc)

-- a folder for which there is no call is a directory
folder_there : (found : PathKind) (now : ℕ) (path : List ℕ) (kept : Kept) (owner : Option Cred) → folder_calls found now path kept owner ≡ [] → found ≡ kinds.Directory
folder_there kinds.Directory now path kept owner is = refl
folder_there kinds.File now path kept owner is = absurd (cc)
folder_there kinds.Nothing now path kept owner is = absurd (cc)

-- if the answer to a Read is these bytes, it is a reply with them
body_there : (found : Result Reply Refusal) (bytes : List ℕ) → is_body found bytes ≡ true → found ≡ Ok (replies.Bytes bytes)
body_there (Ok (replies.Bytes found)) bytes is = ap (λ bytes. Ok (replies.Bytes bytes)) (same_bytes found bytes is)
body_there (Ok (replies.Stat stat)) bytes is = absurd (true≢false (sym is))
body_there (Ok (replies.Names names)) bytes is = absurd (true≢false (sym is))
body_there (Err refusal) bytes is = absurd (true≢false (sym is))

-- a file for which there is no call has the same bytes
step_there : (same marked : Bool) (shared : Option Cred) (tree : Tree) (now : ℕ) (path : List ℕ) (file : GivenFile) (owner : Option Cred)
    → step_calls (if same then (if marked then steps.Leave else apart shared steps.Mark) else apart shared steps.Put) tree now path file owner ≡ [] → same ≡ true
step_there true marked shared tree now path file owner is = refl
step_there false marked None tree now path file owner is = absurd (cc)
step_there false marked (Some old) tree now path file owner is = absurd (cc)

-- the same of a file that is put whether it differs or not: it has calls
file_there : (way : Unchanged) (tree : Tree) (now : ℕ) (path : List ℕ) (file : GivenFile) (owner : Option Cred)
    → step_calls (step_of tree way path file) tree now path file owner ≡ [] → is_body (answer tree (queries.Read user path 0 4294967295)) file.bytes.items ≡ true
file_there unchanged.Skip tree now path file owner is =
    step_there (is_body (answer tree (queries.Read user path 0 4294967295)) file.bytes.items) (is_kept_by (answer tree (queries.Stat user path)) file.kept)
    (shared_owner (answer tree (queries.Stat user path))) tree now path file owner is
file_there unchanged.Put tree now path file owner is = absurd (cc)

-- what is to be at a path is there, if there is no call for it
node_there : (tree : Tree) (syncing : Syncing) (path : List ℕ) (node : TreeNode) → node_calls tree syncing path node ≡ [] → IsThereAt tree path node
node_there tree syncing path (nodes.Folder kept) is =
    let stat = stat_there (answer tree (queries.Stat user path))
    (folder_there (found_by (answer tree (queries.Stat user path))) syncing.now path kept syncing.owner is) in
    record { stat = stat.0; found = stat.1; kind = stat.2 }
node_there tree syncing path (nodes.File file) is =
    body_there (answer tree (queries.Read user path 0 4294967295)) file.bytes.items (file_there syncing.unchanged tree syncing.now path file syncing.owner is)

-- if a step has a result, its name isn't too long, and the result is that of the steps after it
step_done : (long : Bool) (fault : PlanFault) (more : List Call) (next : List Call → Result (List Call) PlanFault)
    → and_next (if long then Err fault else Ok more) next ≡ Ok [] → next more ≡ Ok []
step_done true fault more next is = absurd (cc)
step_done false fault more next is = is

-- if there are no calls in the end, there were none before, and there is none for any member
all_there : (tree : Tree) (syncing : Syncing) (calls : List Call) (members : List TreeMember) → each_onto (member_onto tree syncing) calls members ≡ Ok []
    → (calls ≡ []) × AllByRecursion (IsThere tree syncing) members
unfolding each_onto
all_there tree syncing calls [] is = (cc, tt)
all_there tree syncing calls (member ∷ members) is =
    let place = place_of syncing.directory.now (string_bytes member.path) in
    let more = node_calls tree syncing place member.node in
    let rest = all_there tree syncing (calls ++ more) members
    (step_done (is_long_name (string_bytes member.path)) _ (calls ++ more) (λ calls. each_onto (member_onto tree syncing) calls members) is) in
    (front_empty calls more rest.0, (node_there tree syncing place member.node (back_empty calls more rest.0), rest.1))

pub same_there : SameTreesAreThere
same_there tree syncing members is = (all_there tree syncing [] members is).1
