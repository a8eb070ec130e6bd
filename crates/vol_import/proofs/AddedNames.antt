-- The names that the calls of a plan add: each is the last name of a member's path, or of a directory on a member's path.
use Rattle.std.proofs.Common.{◌≡◌, ◌∙◌, ◌⊎◌, sym, ap, subst, refl, ℕ, ◌&&◌, ◌==◌, Bool, true, false, cond, List, [], ◌∷◌, ◌++◌, length, Option, None, Some, Result, Ok, Err, inl, inr}
use Rattle.std.specs.List.{flat_map}
use Rattle.std.specs.Option.{option_map}
use Rattle.vol_layout.specs.declared.mode.DeviceId.{DeviceId}
use Rattle.vol_dir.specs.Access.{user}
use Rattle.vol_dir.specs.Names.{is_dots}
use Rattle.vol_dir.specs.Tree.{Content, Node, Tree, State}
use Rattle.vol_dir.specs.Walk.{components, is_directory, map_of, root, walk, walk_from}
use Rattle.vol_dir.specs.declared.cred.Cred.{Cred}
use Rattle.vol_dir.specs.declared.refusal.Refusal.{Refusal}
use Rattle.vol_dir.specs.declared.refusal.Refusal.TheVariants as refusals
use Rattle.vol_archive.proofs.Each.{Each, Has, each_append, has_behind, has_front, has_map}
use Rattle.vol_change.specs.Edits.{at_time, change_node, with_owner, with_permission_bits, with_times}
use Rattle.vol_change.specs.Nodes.{node_at}
use Rattle.vol_change.specs.declared.new_nodes.NewFile.TheVariants.{Special}
use Rattle.vol_volume.specs.Answer.{answer}
use Rattle.vol_volume.specs.Journal.{MayFollow}
use Rattle.vol_volume.specs.Step.{step, changed_by, on_node}
use Rattle.vol_volume.specs.Verdict.{verdict, first_of, of_node, write_tests}
use Rattle.vol_volume.specs.declared.calls.Call.{Call}
use Rattle.vol_volume.specs.declared.calls.Call.TheVariants as calls
use Rattle.vol_volume.specs.declared.calls.Done.{Done}
use Rattle.vol_volume.specs.declared.queries.Query.TheVariants as queries
use Rattle.vol_import.specs.MadeMembers.{EndsIn, made_paths, way_paths}
use Rattle.vol_batch.specs.Paths.{below}
use Rattle.vol_import.specs.Plan.{Drafted, and_next, base_permissions, check, closed, closing_calls, device_of, directory_calls, given_calls, is_crowded, is_directory as says_directory, is_known, is_missing, is_there, joined, made_as, moment_of, onto, permissions_given, permissions_of, plan, plan_onto, steps_of, time_calls, times, way_call, way_of, with_made, with_way, with_way_directory, write_calls}
use Rattle.vol_import.specs.declared.member_check.MadeAs.{MadeAs}
use Rattle.vol_import.specs.declared.member_check.MadeAs.TheVariants.{File, Directory, Link, Device}
use Rattle.vol_import.specs.declared.member_check.MemberFault.{MemberFault}
use Rattle.vol_import.specs.declared.member_check.MemberFault.TheVariants as faults
use Rattle.vol_import.specs.declared.import_plan.PlanFault.{PlanFault}
use Rattle.vol_import.specs.declared.import_plan.PlanFault.TheVariants as plans
use Rattle.vol_import.specs.declared.archive_members.Member.{Member}
use Rattle.vol_import.proofs.GrownTrees.{ChangesAt, filled, link_grows, write_changes}
use Rattle.vol_batch.proofs.MadeNames.{EntersAt, HasNamesOf, HasNoOthers, KeepsNames, found, found_in, names_set, no_names, others_same, same_root, set_keeps, walk_kept}
use Rattle.vol_batch.proofs.MadePaths.{create_makes, creation_makes, mkdir_makes, node_found, not_first}
use Rattle.vol_import.proofs.MemberCalls.{IsRun}
use Rattle.vol_volume.proofs.TreeWalks.{named, passes_first}

-- a path is among `paths`
abbrev IsAmong : List (List ℕ) → List ℕ → Type 0
IsAmong paths path = Has (λ (p : List ℕ). p ≡ path) paths

-- a call of a plan that adds at most a last name of `paths`
data IsPlain (paths : List (List ℕ)) : Call → Type 0 where
  creates : (now perm : ℕ) (path : List ℕ) → IsAmong paths path → IsPlain paths (calls.Create user now path perm)
  devices : (now perm : ℕ) (path : List ℕ) (device : DeviceId) → IsAmong paths path → IsPlain paths (calls.Mknod user now path perm device)
  makes : (now perm : ℕ) (path : List ℕ) → IsAmong paths path → IsPlain paths (calls.Mkdir user now path perm)
  links : (now : ℕ) (source target : List ℕ) → IsAmong paths target → IsPlain paths (calls.Link user now source target)
  writes : (now c : ℕ) (path content : List ℕ) → IsPlain paths (calls.Write user now path 0 (c ∷ content))
  permits : (now perm : ℕ) (path : List ℕ) → IsPlain paths (calls.Chmod user now path perm)
  gives : (now uid gid : ℕ) (path : List ℕ) → IsPlain paths (calls.Chown user now path uid gid)
  dates : (now atime mtime : ℕ) (path : List ℕ) → IsPlain paths (calls.Times user now path atime mtime)

-- the tree `new` has all names of `old`, and no others but last names of `paths`
pub record NamesAfter (old new : Tree) (paths : List (List ℕ)) : Type 0 where
  pub rooted : root new ≡ root old
  pub kept : KeepsNames old.nodes new.nodes
  pub adds : (x : ℕ) (word : List ℕ) (j : ℕ) → found (new.nodes x) word ≡ Ok j → is_dots word ≡ false
      → (found (old.nodes x) word ≡ Ok j) ⊎ Has (EndsIn new x word) paths

after_same : (tree : Tree) (paths : List (List ℕ)) → NamesAfter tree tree paths
after_same tree paths = record { rooted = refl; kept = λ x name i is. is; adds = λ x word j is plain. inl is }

after_then : (old mid new : Tree) (paths : List (List ℕ)) → NamesAfter old mid paths → NamesAfter mid new paths → NamesAfter old new paths
after_then old mid new paths first second = record {
  rooted = second.rooted ∙ first.rooted;
  kept = λ x name i is. second.kept x name i (first.kept x name i is);
  adds = λ x word j is plain. elim (second.adds x word j is plain) [
    | inl was ↦ elim (first.adds x word j was plain) [
      | inl old ↦ inl old
      | inr ends ↦ inr (has_map (EndsIn mid x word) (EndsIn new x word) (λ path e. record {
        front = e.front;
        parts = e.parts;
        leads = ap (λ r. walk_from new user r e.front) second.rooted ∙ walk_kept mid new second.kept e.front (root mid) x e.leads;
      }) paths ends)
    ]
    | inr ends ↦ inr ends
  ];
}

-- entering the last name of a path adds only that name
after_entered : (old new : Tree) (path : List ℕ) (paths : List (List ℕ)) → IsAmong paths path → EntersAt old new path → NamesAfter old new paths
after_entered old new path paths among at =
    let kept : KeepsNames old.nodes new.nodes = λ x. (at.enters.kept x).0 in
    record {
      rooted = same_root old new at.edition;
      kept = kept;
      adds = λ x word j is plain. elim (at.enters.others x word j is plain) [
        | inl old ↦ inl old
        | inr here ↦ inr (has_map (λ (p : List ℕ). p ≡ path) (EndsIn new x word) (λ p same. record {
          front = at.reached.front;
          parts = ap components same ∙ (at.reached.parts ∙ ap (λ n. at.reached.front ++ n ∷ []) (sym here.1));
          leads = ap (λ r. walk_from new user r at.reached.front) (same_root old new at.edition)
              ∙ (walk_kept old new kept at.reached.front (root old) at.directory at.reached.walks ∙ ap Ok (sym here.0));
        }) paths among)
      ];
    }

-- changing a node that keeps its names adds no names
after_changed : (old new : Tree) (paths : List (List ℕ)) (i : ℕ) (change : Node → Node) → ChangesAt old new i change
    → HasNamesOf (old.nodes i) (option_map change (old.nodes i)) → HasNoOthers (old.nodes i) (option_map change (old.nodes i)) → NamesAfter old new paths
after_changed old new paths i change changes has none =
    let after = option_map change (old.nodes i) in
    record {
      rooted = same_root old new changes.edition;
      kept = subst (KeepsNames old.nodes) (sym changes.nodes) (names_set old.nodes i after has);
      adds = λ x word j is plain. inl (set_keeps HasNoOthers others_same old.nodes i after none x word j
          (ap (λ (ns : ℕ → Option Node). found (ns x) word) (sym changes.nodes) ∙ is) plain);
    }

-- changing a node other than its content, at the end of a walk, adds no names
after_walked : (state : State) (now : ℕ) (paths : List (List ℕ)) (walked : Result ℕ Refusal) (change : Node → Node)
    → ((node : Node) → (change node).content ≡ node.content)
    → NamesAfter state.tree (at_time now (on_node state walked (λ j. change_node j change state))).tree paths
after_walked state now paths (Err refusal) change same =
    record { rooted = refl; kept = λ x name i is. is; adds = λ x word j is plain. inl is }
after_walked state now paths (Ok i) change same =
    let both = keeps (state.tree.nodes i) in
    after_changed state.tree _ paths i change (record { edition = refl; nodes = refl }) both.0 both.1
  where
    keeps : (node : Option Node) → HasNamesOf node (option_map change node) × HasNoOthers node (option_map change node)
    keeps None = (λ name j is. is, λ word j is plain. is)
    keeps (Some node) = (
      λ name j is. ap (λ (c : Content). found_in (named (map_of c)) name) (same node) ∙ is,
      λ word j is plain. ap (λ (c : Content). found_in (named (map_of c)) word) (sym (same node)) ∙ is,
    )

-- the path of an accepted Write leads to a node that isn't a directory
write_walks : (state : State) (now c : ℕ) (path content : List ℕ) → verdict state (calls.Write user now path 0 (c ∷ content)) ≡ None
    → (i : ℕ) × (walk state.tree user path ≡ Ok i) × (is_directory (node_at state.tree i) ≡ false)
unfolding verdict
write_walks state now c path content accepted =
    let tests = λ (i : ℕ). first_of (write_tests state user 0 (length (c ∷ content)) i) in
    let first = passes_first state.tree path (of_node (walk state.tree user path) tests) accepted in
    let led = node_found (walk state.tree user path) tests first.others_pass in
    (led.0, led.1, (not_first (is_directory (node_at state.tree led.0)) refusals.IsDirectory _ led.2).0)

-- an accepted call of a plan adds at most a last name of `paths`
call_after : (paths : List (List ℕ)) (state : State) (call : Call) (done : Done) → IsPlain paths call
    → MayFollow state (record { call = call; done = done }) → NamesAfter state.tree (step state call done).tree paths
unfolding changed_by
call_after paths state call done (creates now perm path among) follows =
    after_entered state.tree _ path paths among (create_makes state now perm path done follows.accepted follows.answered).0
call_after paths state call done (devices now perm path device among) follows =
    after_entered state.tree _ path paths among (creation_makes (Special device) state now perm path done follows.accepted follows.answered).0
call_after paths state call done (makes now perm path among) follows =
    after_entered state.tree _ path paths among (mkdir_makes state now perm path done follows.accepted follows.answered).1.0
call_after paths state call done (links now source target among) follows =
    after_entered state.tree _ target paths among (link_grows state now source target done follows.accepted).4
call_after paths state call done (writes now c path content) follows =
    let led = write_walks state now c path content follows.accepted in
    let i = led.0 in
    let change = filled now (c ∷ content) in
    let node = state.tree.nodes i in
    after_changed state.tree _ paths i change (write_changes state now path content c done i led.1) (no_names node (option_map change node) led.2)
    (λ word j is plain. absurd (none node word j is))
  where
    none : (node : Option Node) (word : List ℕ) (j : ℕ) → found (option_map (filled now (c ∷ content)) node) word ≡ Ok j → ⊥
    none None word j is = cc
    none (Some node) word j is = cc
call_after paths state call done (permits now perm path) follows =
    after_walked state now paths (walk state.tree user path) (with_permission_bits now perm) (λ node. refl)
call_after paths state call done (gives now uid gid path) follows =
    after_walked state now paths (walk state.tree user path) (with_owner now uid gid) (λ node. refl)
call_after paths state call done (dates now atime mtime path) follows =
    after_walked state now paths (walk state.tree user path) (with_times now atime mtime) (λ node. refl)

-- accepted calls of a plan add at most last names of `paths`
run_after : (paths : List (List ℕ)) (run : List Call) (old new : State) → Each (IsPlain paths) run → IsRun old run new
    → NamesAfter old.tree new.tree paths
run_after paths [] old new plain run = subst (λ (s : State). NamesAfter old.tree s.tree paths) (sym run) (after_same old.tree paths)
run_after paths (call ∷ rest) old new plain run =
    after_then old.tree (step old call run.0).tree new.tree paths (call_after paths old call run.0 plain.0 run.1)
    (run_after paths rest (step old call run.0) new plain.1 run.3)

-- the calls that make the directories on a member's path add only names of these directories
way_plain : (paths : List (List ℕ)) (tree : Tree) (base : List ℕ) (now : ℕ) (path : List ℕ) (steps : List (List ℕ)) (drafted : Drafted)
    → ((p : List ℕ) → IsAmong (way_paths base path steps) p → IsAmong paths p) → Each (IsPlain paths) drafted.1
    → Each (IsPlain paths) (with_way tree base now path steps drafted).1
unfolding with_way
way_plain paths tree base now path [] drafted within plain = plain
way_plain paths tree base now path (step ∷ steps) drafted within plain =
    let next = path ++ 47 ∷ step in
    way_plain paths tree base now next steps (with_way_directory tree base now next drafted) (λ p is. within p (inr is))
    (each_append (IsPlain paths) drafted.1 _ plain (by (is_missing tree base drafted.0 next)))
  where
    by : (missing : Bool) → Each (IsPlain paths) (cond missing (way_call now (base ++ (path ++ 47 ∷ step)) ∷ []) [])
    by true = (makes now 0o755 (base ++ (path ++ 47 ∷ step)) (within (base ++ (path ++ 47 ∷ step)) (inl refl)), tt)
    by false = tt

-- the calls that make a member add only the last name of its path
made_plain : (paths : List (List ℕ)) (tree : Tree) (base : List ℕ) (now : ℕ) (member : Member) (made : MadeAs) (owner : Cred) (drafted : Drafted)
    → IsAmong paths (below base member.path) → Each (IsPlain paths) drafted.1
    → Each (IsPlain paths) (with_made made tree base now member owner drafted).1
made_plain paths tree base now member made owner drafted among plain = by made
  where
    owned : (none : Bool) → Each (IsPlain paths) (cond none [] (calls.Chown user (moment_of member.header now) (below base member.path) owner.uid owner.gid ∷ []))
    owned true = tt
    owned false = (gives (moment_of member.header now) owner.uid owner.gid (below base member.path), tt)

    written : (content : List ℕ) → Each (IsPlain paths) (write_calls (moment_of member.header now) (below base member.path) content)
    written [] = tt
    written (c ∷ content) = (writes (moment_of member.header now) c (below base member.path) content, tt)

    directory : (there known : Bool) → Each (IsPlain paths) (cond there []
        (cond known (given_calls (moment_of member.header now) (below base member.path) (permissions_of member.header) owner)
        (directory_calls (moment_of member.header now) (below base member.path) (permissions_of member.header) owner)))
    directory true known = tt
    directory false true = (
      permits (moment_of member.header now) (permissions_of member.header) (below base member.path),
      (gives (moment_of member.header now) owner.uid owner.gid (below base member.path), tt),
    )
    directory false false =
        (makes (moment_of member.header now) (permissions_of member.header) (below base member.path) among, owned (owner.uid == 0 && owner.gid == 0))

    by : (made : MadeAs) → Each (IsPlain paths) (with_made made tree base now member owner drafted).1
    by File = each_append (IsPlain paths) drafted.1 _ plain (
      creates (moment_of member.header now) (permissions_of member.header) (below base member.path) among,
      each_append (IsPlain paths) (write_calls (moment_of member.header now) (below base member.path) member.content) _ (written member.content)
          (owned (owner.uid == 0 && owner.gid == 0)),
    )
    by (Device kind) = each_append (IsPlain paths) drafted.1 _ plain (
      devices (moment_of member.header now) (permissions_of member.header) (below base member.path) (device_of kind member.header) among,
      owned (owner.uid == 0 && owner.gid == 0),
    )
    by Directory = each_append (IsPlain paths) drafted.1 _ plain
        (directory (is_there tree base (joined (steps_of member.path))) (is_known drafted.0 (joined (steps_of member.path))))
    by Link = each_append (IsPlain paths) drafted.1 _ plain (links (moment_of member.header now) (below base member.link) (below base member.path) among, tt)

-- a member that can be made adds only names on its path
onto_plain : (paths : List (List ℕ)) (tree : Tree) (base : List ℕ) (now : ℕ) (member : Member) (made : Result (MadeAs × Cred) MemberFault)
    (drafted next : Drafted) → ((p : List ℕ) → IsAmong (made_paths base member) p → IsAmong paths p) → Each (IsPlain paths) drafted.1
    → onto tree base now drafted member made ≡ Ok next → Each (IsPlain paths) next.1
onto_plain paths tree base now member (Err fault) drafted next within plain is = absurd (cc)
onto_plain paths tree base now member (Ok made) drafted next within plain is =
    let way = way_of member.path in
    let mid = with_way tree base now [] way drafted in
    by mid (is_crowded tree mid) is
    (way_plain paths tree base now [] way drafted
    (λ p among. within p (has_front (λ (q : List ℕ). q ≡ p) (way_paths base [] way) (below base member.path ∷ []) among)) plain)
  where
    by : (mid : Drafted) (crowded : Bool)
        → cond crowded (Err (plans.Member (below base member.path) faults.NoInode)) (Ok (with_made made.0 tree base now member made.1 mid)) ≡ Ok next
        → Each (IsPlain paths) mid.1 → Each (IsPlain paths) next.1
    by mid true e plain = absurd (cc)
    by mid false e plain =
        let same : with_made made.0 tree base now member made.1 mid ≡ next = cc in
        subst (λ (d : Drafted). Each (IsPlain paths) d.1) same
        (made_plain paths tree base now member made.0 made.1 mid
        (within (below base member.path) (has_behind (λ (q : List ℕ). q ≡ below base member.path) (way_paths base [] (way_of member.path))
        (below base member.path ∷ []) (inl refl))) plain)

-- making all members adds only names on their paths
onto_all_plain : (paths : List (List ℕ)) (tree : Tree) (base : List ℕ) (now : ℕ) (all : List Member) (drafted : Drafted) (run : List Call)
    → ((p : List ℕ) → IsAmong (flat_map (made_paths base) all) p → IsAmong paths p) → Each (IsPlain paths) drafted.1
    → plan_onto tree base now drafted all ≡ Ok run → Each (IsPlain paths) run
unfolding plan_onto
onto_all_plain paths tree base now [] drafted run within plain is = let same : drafted.1 ≡ run = cc in subst (Each (IsPlain paths)) same plain
onto_all_plain paths tree base now (member ∷ rest) drafted run within plain is =
    by (λ next. onto_all_plain paths tree base now rest next run
    (λ p among. within p (has_behind (λ (q : List ℕ). q ≡ p) (made_paths base member) (flat_map (made_paths base) rest) among)))
    (onto tree base now drafted member (check tree.geometry.edition member)) refl is
  where
    by : ((next : Drafted) → Each (IsPlain paths) next.1 → plan_onto tree base now next rest ≡ Ok run → Each (IsPlain paths) run)
        → (added : Result Drafted PlanFault) → onto tree base now drafted member (check tree.geometry.edition member) ≡ added
        → and_next added (λ next. plan_onto tree base now next rest) ≡ Ok run → Each (IsPlain paths) run
    by others (Err fault) e done = absurd (cc)
    by others (Ok next) e done =
        others next (onto_plain paths tree base now member (check tree.geometry.edition member) drafted next
        (λ p among. within p (has_front (λ (q : List ℕ). q ≡ p) (made_paths base member) (flat_map (made_paths base) rest) among)) plain e) done

-- the calls that end an import add no names
closed_plain : (paths : List (List ℕ)) (now : ℕ) (base : List ℕ) (permissions : Option ℕ) (run : List Call) → Each (IsPlain paths) run
    → Each (IsPlain paths) (closed now base permissions run)
closed_plain paths now base permissions [] plain = tt
closed_plain paths now base permissions (call ∷ run) plain = (plain.0, each_append (IsPlain paths) run _ plain.1 (by permissions))
  where
    by : (permissions : Option ℕ) → Each (IsPlain paths) (closing_calls now base permissions)
    by None = tt
    by (Some perm) = (permits now perm base, tt)

times_plain : (paths : List (List ℕ)) (tree : Tree) (base : List ℕ) (now : ℕ) (all : List Member) → Each (IsPlain paths) (times tree base now all)
times_plain paths tree base now [] = tt
times_plain paths tree base now (member ∷ rest) =
    each_append (IsPlain paths) (time_calls tree base now member (made_as member.header.flag member.path)) _
    (by (made_as member.header.flag member.path)) (times_plain paths tree base now rest)
  where
    one : (there : Bool) → Each (IsPlain paths) (cond there []
        (calls.Times user now (below base member.path) (moment_of member.header now) (moment_of member.header now) ∷ []))
    one true = tt
    one false = (dates now (moment_of member.header now) (moment_of member.header now) (below base member.path), tt)

    by : (made : Result MadeAs MemberFault) → Each (IsPlain paths) (time_calls tree base now member made)
    by (Ok Directory) = one (says_directory (answer tree (queries.Stat user (below base member.path))))
    by (Ok File) = tt
    by (Ok Link) = tt
    by (Ok (Device kind)) = tt
    by (Err fault) = tt

-- the calls of a plan add only names on the paths of its members
pub plan_after : (old new : State) (base : List ℕ) (now : ℕ) (all : List Member) (run : List Call) → plan old.tree base now all ≡ Ok run
    → IsRun old run new → NamesAfter old.tree new.tree (flat_map (made_paths base) all)
plan_after old new base now all run is made =
    run_after (flat_map (made_paths base) all) run old new (by (plan_onto old.tree base now ([], []) all) refl is) made
  where
    by : (planned : Result (List Call) PlanFault) → plan_onto old.tree base now ([], []) all ≡ planned
        → and_next planned (λ more. Ok (closed now base (base_permissions (answer old.tree (queries.Stat user base)) (permissions_given all)) more
        ++ times old.tree base now all)) ≡ Ok run
        → Each (IsPlain (flat_map (made_paths base) all)) run
    by (Err fault) e is = absurd (cc)
    by (Ok more) e is =
        let permissions = base_permissions (answer old.tree (queries.Stat user base)) (permissions_given all) in
        let paths = flat_map (made_paths base) all in
        let same : closed now base permissions more ++ times old.tree base now all ≡ run = cc in
        subst (Each (IsPlain paths)) same
        (each_append (IsPlain paths) (closed now base permissions more) (times old.tree base now all)
        (closed_plain paths now base permissions more (onto_all_plain paths old.tree base now all ([], []) more (λ p among. among) tt e))
        (times_plain paths old.tree base now all))
