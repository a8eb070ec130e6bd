-- No check refuses a call or a query with NoMemory.
use Rattle.std.proofs.Common.{◌≡◌, ◌≢◌, ℕ, Bool, true, false, if◌then◌else◌, List, [], ◌∷◌, Option, None, Some, Result, Ok, Err, refl, ap, sym, ◌∙◌, subst, length}
use Rattle.std.specs.List.{list_any}
use Rattle.std.specs.Option.{option_map, option_map_or, ok_or}
use Rattle.std.proofs.lemmas.Bool.{false≢true}
use Rattle.vol_dir.specs.Access.{grants, may_execute, may_read}
use Rattle.vol_dir.specs.Names.{Names, get}
use Rattle.vol_dir.specs.Tree.{Node, Tree, State}
use Rattle.pdp_words.specs.Steps.{and_then}
use Rattle.vol_dir.specs.Walk.{has_zero, map_of, search_node, search, find_in, walk_from, walk, parent_from, walk_parent, split_last, components, root, is_directory}
use Rattle.vol_layout.specs.Ids.{is_bad_id}
use Rattle.vol_change.specs.Nodes.{node_at}
use Rattle.vol_volume.specs.Journal.{Refuses}
use Rattle.vol_volume.specs.Verdict.{first_of, then_others, of_node, of_parent, link_refusal, verdict, create_tests, file_tests, mkdir_tests, link_tests, unlink_tests, rmdir_tests, body_tests, write_tests, truncate_tests, owner_tests, chown_tests}
use Rattle.vol_volume.specs.Answer.{query_refusal, list_tests}
use Rattle.vol_change.specs.declared.new_nodes.NewFile.TheVariants.{Special}
use Rattle.vol_dir.specs.declared.cred.Cred.{Cred}
use Rattle.vol_dir.specs.declared.refusal.Refusal.{Refusal}
use Rattle.vol_dir.specs.declared.refusal.Refusal.TheVariants as refusals
use Rattle.vol_volume.specs.declared.calls.Call.{Call}
use Rattle.vol_volume.specs.declared.calls.Call.TheVariants.{Create, Mkdir, Link, Unlink, Rmdir, Write, Truncate, Chmod, Chown, Times, Mknod}
use Rattle.vol_volume.specs.declared.queries.Query.{Query}
use Rattle.vol_volume.specs.declared.queries.Query.TheVariants as queries

-- true if a refusal is NoMemory
abbrev is_memory : Refusal → Bool
is_memory refusals.NoMemory = true
is_memory _ = false

-- true if a result is the refusal NoMemory
abbrev fails : {X : Type 0} → Result X Refusal → Bool
fails (Ok x) = false
fails (Err refusal) = is_memory refusal

-- true if an optional refusal is NoMemory
abbrev says : Option Refusal → Bool
says None = false
says (Some refusal) = is_memory refusal

-- searching the map of a node isn't refused with NoMemory
search_names : (names : Option Names) (granted : Bool)
    → fails (option_map_or (λ (names : Names). if granted then Ok names else Err refusals.Access) names (Err refusals.NotDirectory)) ≡ false
search_names None granted = refl
search_names (Some names) true = refl
search_names (Some names) false = refl

-- searching an optional node isn't refused with NoMemory
search_option : (cred : Cred) (node : Option Node) → fails (option_map_or (search_node cred) node (Err refusals.NotDirectory)) ≡ false
search_option cred None = refl
search_option cred (Some node) = search_names (map_of node.content) (grants may_execute cred node)

-- if a result isn't NoMemory, and neither is the next step, both together aren't
fails_and_then : {X Y : Type 0} (result : Result X Refusal) (next : X → Result Y Refusal) → fails result ≡ false
    → ((x : X) → fails (next x) ≡ false) → fails (and_then result next) ≡ false
fails_and_then (Ok x) next first rest = rest x
fails_and_then (Err refusal) next first rest = first

-- looking up a name isn't refused with NoMemory
fails_ok_or : (found : Option ℕ) → fails (ok_or found refusals.NoEntry) ≡ false
fails_ok_or None = refl
fails_ok_or (Some i) = refl

-- a walk from a node isn't refused with NoMemory
fails_walk_from : (tree : Tree) (cred : Cred) (i : ℕ) (names : List (List ℕ)) → fails (walk_from tree cred i names) ≡ false
fails_walk_from tree cred i [] = refl
fails_walk_from tree cred i (name ∷ names) =
    fails_and_then (find_in tree cred i name) (λ next. walk_from tree cred next names)
    (fails_and_then (search tree cred i) (λ map. ok_or (get map name) refusals.NoEntry)
    (search_option cred (tree.nodes i)) (λ map. fails_ok_or (get map name)))
    (λ next. fails_walk_from tree cred next names)

-- a walk from the root isn't refused with NoMemory
fails_walk : (tree : Tree) (cred : Cred) (path : List ℕ) → fails (walk tree cred path) ≡ false
unfolding walk
fails_walk tree cred path = fails_walk_from tree cred (root tree) (components path)

-- a walk to the parent isn't refused with NoMemory
fails_parent : (tree : Tree) (cred : Cred) (names : List (List ℕ) × List ℕ) → fails (parent_from tree cred names) ≡ false
fails_parent tree cred names =
    fails_and_then (walk_from tree cred (root tree) names.0) (λ i. and_then (search tree cred i) (λ _. Ok (i, names.1)))
    (fails_walk_from tree cred (root tree) names.0)
    (λ i. fails_and_then (search tree cred i) (λ _. Ok (i, names.1)) (search_option cred (tree.nodes i)) (λ _. refl))

-- no refusal of a list of tests is NoMemory
abbrev AreOther : List (Bool × Refusal) → Type 0
AreOther [] = Unit {0}
AreOther (test ∷ tests) = (is_memory test.1 ≡ false) × AreOther tests

-- a check followed by other checks doesn't give NoMemory if none of them does
says_if : (test : Bool) (refusal : Refusal) (others : Option Refusal) → is_memory refusal ≡ false → says others ≡ false
    → says (if test then Some refusal else others) ≡ false
says_if true refusal others first rest = first
says_if false refusal others first rest = rest

-- the first refusal of a list of tests isn't NoMemory
says_first : (tests : List (Bool × Refusal)) → AreOther tests → says (first_of tests) ≡ false
says_first [] all = refl
says_first (test ∷ tests) all = says_if test.0 test.1 (first_of tests) all.0 (says_first tests all.1)

-- the first checks of a call, followed by others, don't give NoMemory
says_then : (tree : Tree) (cred : Cred) (paths : List (List ℕ)) (others : Option Refusal) → says others ≡ false
    → says (then_others tree cred paths others) ≡ false
says_then tree cred paths others rest =
    says_if (is_bad_id tree.geometry.edition cred.uid cred.gid) refusals.BadId
    (if list_any has_zero paths then Some refusals.Invalid else others) refl
    (says_if (list_any has_zero paths) refusals.Invalid others refl rest)

-- a walk followed by the checks of its node doesn't give NoMemory
says_node : (walked : Result ℕ Refusal) (others : ℕ → Option Refusal) → fails walked ≡ false → ((i : ℕ) → says (others i) ≡ false)
    → says (of_node walked others) ≡ false
says_node (Ok i) others first rest = rest i
says_node (Err refusal) others first rest = first

-- a walk to the parent followed by the checks of the parent and the last name doesn't give NoMemory
says_walked : (walked : Option (Result (ℕ × List ℕ) Refusal)) (bare : Refusal) (tests : ℕ → List ℕ → List (Bool × Refusal))
    → is_memory bare ≡ false → ((found : Result (ℕ × List ℕ) Refusal) → walked ≡ Some found → fails found ≡ false)
    → ((d : ℕ) (name : List ℕ) → AreOther (tests d name)) → says (of_parent walked bare tests) ≡ false
says_walked None bare tests first second rest = first
says_walked (Some (Ok found)) bare tests first second rest = says_first (tests found.0 found.1) (rest found.0 found.1)
says_walked (Some (Err refusal)) bare tests first second rest = second (Err refusal) refl

-- the walk to the parent of a path, split into components, isn't refused with NoMemory
parent_split : (tree : Tree) (cred : Cred) (names : Option (List (List ℕ) × List ℕ)) (found : Result (ℕ × List ℕ) Refusal)
    → option_map (parent_from tree cred) names ≡ Some found → fails found ≡ false
parent_split tree cred None found e = absurd (cc)
parent_split tree cred (Some names) found e =
    let same : parent_from tree cred names ≡ found = cc in subst (λ result. fails result ≡ false) same (fails_parent tree cred names)

-- the checks of a path, its parent and its last name don't give NoMemory
says_parent : (tree : Tree) (cred : Cred) (path : List ℕ) (bare : Refusal) (tests : ℕ → List ℕ → List (Bool × Refusal))
    → is_memory bare ≡ false → ((d : ℕ) (name : List ℕ) → AreOther (tests d name))
    → says (of_parent (walk_parent tree cred path) bare tests) ≡ false
unfolding walk_parent
says_parent tree cred path bare tests first rest =
    says_walked (walk_parent tree cred path) bare tests first (λ found e. parent_split tree cred (split_last (components path)) found e) rest

-- the verdict on a call isn't NoMemory
says_verdict : (state : State) (call : Call) → says (verdict state call) ≡ false
unfolding verdict
says_verdict state (Create cred now path perm) =
    says_then state.tree cred (path ∷ []) _
    (says_parent state.tree cred path refusals.Exists (create_tests state cred) refl (λ d name. (refl, (refl, (refl, (refl, (refl, tt)))))))
says_verdict state (Mknod cred now path perm device) =
    says_then state.tree cred (path ∷ []) _
    (says_parent state.tree cred path refusals.Exists (file_tests (Special device) state cred) refl (λ d name. (refl, (refl, (refl, (refl, (refl, (refl, tt))))))))
says_verdict state (Mkdir cred now path perm) =
    says_then state.tree cred (path ∷ []) _
    (says_parent state.tree cred path refusals.Exists (mkdir_tests state cred) refl (λ d name. (refl, (refl, (refl, (refl, (refl, (refl, tt))))))))
says_verdict state (Link cred now source target) =
    says_then state.tree cred (source ∷ target ∷ []) _
    (says_node (walk state.tree cred source) (link_refusal state cred target) (fails_walk state.tree cred source) (λ i.
    says_if (is_directory (node_at state.tree i)) refusals.IsDirectory _ refl
    (says_parent state.tree cred target refusals.Exists (link_tests state cred i) refl (λ d name. (refl, (refl, (refl, (refl, (refl, tt)))))))))
says_verdict state (Unlink cred now path) =
    says_then state.tree cred (path ∷ []) _
    (says_parent state.tree cred path refusals.IsDirectory (unlink_tests state cred) refl (λ d name. (refl, (refl, (refl, tt)))))
says_verdict state (Rmdir cred now path) =
    says_then state.tree cred (path ∷ []) _
    (says_parent state.tree cred path refusals.Invalid (rmdir_tests state cred) refl (λ d name. (refl, (refl, (refl, (refl, (refl, tt)))))))
says_verdict state (Write cred now path offset bytes) =
    says_then state.tree cred (path ∷ []) _
    (says_node (walk state.tree cred path) (λ i. first_of (write_tests state cred offset (length bytes) i)) (fails_walk state.tree cred path)
    (λ i. says_first (write_tests state cred offset (length bytes) i) (refl, (refl, (refl, (refl, (refl, tt)))))))
says_verdict state (Truncate cred now path size) =
    says_then state.tree cred (path ∷ []) _
    (says_node (walk state.tree cred path) (λ i. first_of (truncate_tests state.tree cred size i)) (fails_walk state.tree cred path)
    (λ i. says_first (truncate_tests state.tree cred size i) (refl, (refl, (refl, (refl, tt))))))
says_verdict state (Chmod cred now path perm) =
    says_then state.tree cred (path ∷ []) _
    (says_node (walk state.tree cred path) (λ i. first_of (owner_tests state.tree cred i)) (fails_walk state.tree cred path)
    (λ i. says_first (owner_tests state.tree cred i) (refl, tt)))
says_verdict state (Chown cred now path uid gid) =
    says_if (is_bad_id state.tree.geometry.edition uid gid) refusals.BadId _ refl
    (says_then state.tree cred (path ∷ []) _
    (says_node (walk state.tree cred path) (λ i. first_of (chown_tests cred)) (fails_walk state.tree cred path)
    (λ i. says_first (chown_tests cred) (refl, tt))))
says_verdict state (Times cred now path atime mtime) =
    says_then state.tree cred (path ∷ []) _
    (says_node (walk state.tree cred path) (λ i. first_of (owner_tests state.tree cred i)) (fails_walk state.tree cred path)
    (λ i. says_first (owner_tests state.tree cred i) (refl, tt)))

-- the refusal of a query isn't NoMemory
says_query : (tree : Tree) (query : Query) → says (query_refusal tree query) ≡ false
unfolding query_refusal
says_query tree (queries.Stat cred path) =
    says_then tree cred (path ∷ []) _ (says_node (walk tree cred path) (λ i. None) (fails_walk tree cred path) (λ i. refl))
says_query tree (queries.Read cred path offset len) =
    says_then tree cred (path ∷ []) _
    (says_node (walk tree cred path) (λ i. first_of (body_tests tree may_read cred i)) (fails_walk tree cred path)
    (λ i. says_first (body_tests tree may_read cred i) (refl, (refl, (refl, tt)))))
says_query tree (queries.List cred path) =
    says_then tree cred (path ∷ []) _
    (says_node (walk tree cred path) (λ i. first_of (list_tests tree cred i)) (fails_walk tree cred path)
    (λ i. says_first (list_tests tree cred i) (refl, (refl, tt))))

-- a call is never refused with NoMemory because of the state of a volume
pub verdict_other : (state : State) (call : Call) → verdict state call ≢ Some refusals.NoMemory
verdict_other state call e = false≢true (sym (says_verdict state call) ∙ ap says e)

-- a query is never refused with NoMemory because of the tree
pub query_other : (tree : Tree) (query : Query) → query_refusal tree query ≢ Some refusals.NoMemory
query_other tree query e = false≢true (sym (says_query tree query) ∙ ap says e)

-- a call may be refused with the refusal of its verdict
pub refused_so : (state : State) (call : Call) (refusal : Refusal) → verdict state call ≡ Some refusal → Refuses state call refusal
refused_so state call refusals.NotOwner says_so = says_so
refused_so state call refusals.NoEntry says_so = says_so
refused_so state call refusals.NoMemory says_so = absurd (verdict_other state call says_so)
refused_so state call refusals.Access says_so = says_so
refused_so state call refusals.Exists says_so = says_so
refused_so state call refusals.NotDirectory says_so = says_so
refused_so state call refusals.IsDirectory says_so = says_so
refused_so state call refusals.Invalid says_so = says_so
refused_so state call refusals.TooBig says_so = says_so
refused_so state call refusals.NoSpace says_so = says_so
refused_so state call refusals.TooManyLinks says_so = says_so
refused_so state call refusals.NotEmpty says_so = says_so
refused_so state call refusals.NotRegular says_so = says_so
refused_so state call refusals.NoInode says_so = says_so
refused_so state call refusals.BadId says_so = says_so
