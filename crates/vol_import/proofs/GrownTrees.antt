-- The tree after calls of an import: it has grown, or one of its nodes has changed.
use Rattle.std.proofs.Common.{◌≡◌, ◌≢◌, ◌∙◌, sym, ap, subst, refl, ℕ, ◌+◌, max, true, false, List, [], ◌∷◌, length, Option, None, Some, Result, Ok, inl, inr}
use Rattle.std.specs.List.{list_any}
use Rattle.std.specs.Option.{option_map}
use Rattle.std.proofs.lemmas.Bool.{cases_eq, true≢false}
use Rattle.vol_file.specs.Changes.{spliced}
use Rattle.vol_dir.specs.Access.{user}
use Rattle.vol_dir.specs.Names.{get}
use Rattle.vol_dir.specs.Tree.{Body, Node, Tree, State}
use Rattle.vol_dir.specs.Walk.{has_zero, is_directory, walk, walk_parent}
use Rattle.vol_dir.specs.declared.refusal.Refusal.{Refusal}
use Rattle.vol_dir.specs.declared.refusal.Refusal.TheVariants as refusals
use Rattle.vol_change.specs.Edits.{at_time, change_node, set_at, add_link, body_of, modified, with_owner, with_permission_bits, with_times, after_write}
use Rattle.vol_change.specs.Effects.{after_link}
use Rattle.vol_change.specs.Nodes.{node_at, size_with_entry}
use Rattle.vol_change.proofs.SideStates.{set_beside}
use Rattle.vol_change.proofs.NodeEdits.{set_here}
use Rattle.vol_volume.specs.Step.{step, changed_by, on_node, on_parent}
use Rattle.vol_volume.specs.Verdict.{verdict, link_refusal, link_tests, of_node}
use Rattle.vol_volume.specs.declared.calls.Call.TheVariants.{Chmod, Chown, Link, Times, Write}
use Rattle.vol_volume.specs.declared.calls.Done.{Done}
use Rattle.vol_volume.proofs.Accepted.{link_passed}
use Rattle.vol_batch.proofs.MadeNames.{LeadsTo, HasNamesOf, Keeps, HasNoOthers, EntersAt, enters_between, keeps_none, keeps_then, linked_others, nodes_set, others_same, set_keeps, KeepsOwner, KeepsOwners, owner_none, owner_same, owner_then, owner_told, owners_set, EntersName, Grows, Gains, linked, linked_keeps, linked_owner, searched_names, name_entered, grown_path, path_kept, path_made, same_root}
use Rattle.vol_batch.proofs.MadePaths.{node_found, not_first}
use Rattle.vol_volume.proofs.TreeWalks.{passes_paths, parent_found, reaches, searched}

-- node `i` of a tree is changed
pub record ChangesAt (old new : Tree) (i : ℕ) (change : Node → Node) : Type 0 where
  pub edition : new.geometry.edition ≡ old.geometry.edition
  pub nodes : new.nodes ≡ set_at old.nodes i (option_map change (old.nodes i))

-- a file with these bytes instead of its own
abbrev pub filled : ℕ → List ℕ → Node → Node
filled now bytes node =
    record (modified now node) { content = Body (spliced (body_of node.content) 0 bytes); size = max node.size (0 + length bytes) }

-- a Write at the start of an empty file changes its node
pub write_changes : (state : State) (now : ℕ) (path bytes : List ℕ) (byte : ℕ) (done : Done) (i : ℕ) → walk state.tree user path ≡ Ok i
    → ChangesAt state.tree (step state (Write user now path 0 (byte ∷ bytes)) done).tree i (filled now (byte ∷ bytes))
unfolding changed_by
write_changes state now path bytes byte done i walked =
    subst (λ (r : Result ℕ Refusal). ChangesAt state.tree (at_time now (on_node state r (after_write state now 0 (byte ∷ bytes)))).tree i (filled now (byte ∷ bytes)))
    (sym walked) (record { edition = refl; nodes = refl })

-- changing the node at the end of a walk changes this node
walk_changes : (state : State) (now : ℕ) (walked : Result ℕ Refusal) (change : Node → Node) (i : ℕ) → walked ≡ Ok i
    → ChangesAt state.tree (at_time now (on_node state walked (λ j. change_node j change state))).tree i change
walk_changes state now walked change i is =
    subst (λ (r : Result ℕ Refusal). ChangesAt state.tree (at_time now (on_node state r (λ j. change_node j change state))).tree i change)
    (sym is) (record { edition = refl; nodes = refl })

pub chown_changes : (state : State) (now : ℕ) (path : List ℕ) (uid gid : ℕ) (done : Done) (i : ℕ) → walk state.tree user path ≡ Ok i
    → ChangesAt state.tree (step state (Chown user now path uid gid) done).tree i (with_owner now uid gid)
unfolding changed_by
chown_changes state now path uid gid done i = walk_changes state now (walk state.tree user path) (with_owner now uid gid) i

pub chmod_changes : (state : State) (now : ℕ) (path : List ℕ) (perm : ℕ) (done : Done) (i : ℕ) → walk state.tree user path ≡ Ok i
    → ChangesAt state.tree (step state (Chmod user now path perm) done).tree i (with_permission_bits now perm)
unfolding changed_by
chmod_changes state now path perm done i = walk_changes state now (walk state.tree user path) (with_permission_bits now perm) i

pub times_changes : (state : State) (now : ℕ) (path : List ℕ) (accessed modified : ℕ) (done : Done) (i : ℕ) → walk state.tree user path ≡ Ok i
    → ChangesAt state.tree (step state (Times user now path accessed modified) done).tree i (with_times now accessed modified)
unfolding changed_by
times_changes state now path accessed modified done i = walk_changes state now (walk state.tree user path) (with_times now accessed modified) i

-- the changed node is the old one with the change
pub node_changed : (old new : Tree) (i : ℕ) (change : Node → Node) (node : Node) → ChangesAt old new i change → old.nodes i ≡ Some node
    → new.nodes i ≡ Some (change node)
node_changed old new i change node changes stands =
    ap (λ (ns : ℕ → Option Node). ns i) changes.nodes
    ∙ (set_here old.nodes i (option_map change (old.nodes i)) ∙ ap (option_map change) stands)

-- the other nodes are unchanged
pub node_beside : (old new : Tree) (i : ℕ) (change : Node → Node) → ChangesAt old new i change → (x : ℕ) → x ≢ i → new.nodes x ≡ old.nodes x
node_beside old new i change changes x other =
    ap (λ (ns : ℕ → Option Node). ns x) changes.nodes ∙ set_beside old.nodes i (option_map change (old.nodes i)) x other

-- a path to the changed node leads to it after the change
leads_changed : (old new : Tree) (path : List ℕ) (node : Node) (change : Node → Node) (leads : LeadsTo old path node)
    → ChangesAt old new leads.number change → HasNamesOf (Some node) (Some (change node)) → LeadsTo new path (change node)
leads_changed old new path node change leads changes names =
    let i = leads.number in
    let after = option_map change (old.nodes i) in
    let same : after ≡ Some (change node) = ap (option_map change) leads.stands in
    record {
      number = i;
      walked = path_kept old new path i (same_root old new changes.edition)
          (λ x. subst (λ (ns : ℕ → Option Node). HasNamesOf (old.nodes x) (ns x)) (sym changes.nodes)
          (elim (cases_eq x i) [
            | inl here ↦
                subst (λ n. HasNamesOf n (set_at old.nodes i after x)) (sym (ap old.nodes here ∙ leads.stands))
                (subst (HasNamesOf (Some node)) (sym (ap (set_at old.nodes i after) here ∙ (set_here old.nodes i after ∙ same))) names)
            | inr other ↦ subst (HasNamesOf (old.nodes x)) (sym (set_beside old.nodes i after x other)) (λ name j is. is)
          ])) leads.walked;
      stands = node_changed old new i change node changes leads.stands;
    }

-- a path to a new node leads to it after a change
pub gains_changed : (old mid new : Tree) (path : List ℕ) (node : Node) (change : Node → Node) (gains : Gains old mid path node)
    → ChangesAt mid new gains.leads.number change → HasNamesOf (Some node) (Some (change node)) → Gains old new path (change node)
unfolding leads_changed
gains_changed old mid new path node change gains changes names =
    let i = gains.leads.number in
    let after = option_map change (mid.nodes i) in
    record {
      leads = leads_changed mid new path node change gains.leads changes names;
      free = gains.free;
      grows = record {
        edition = changes.edition ∙ gains.grows.edition;
        kept = λ x. subst (λ (ns : ℕ → Option Node). Keeps (old.nodes x) (ns x)) (sym changes.nodes)
            (elim (cases_eq x i) [
              | inl here ↦ keeps_none (old.nodes x) (set_at mid.nodes i after x) (ap old.nodes here ∙ gains.free)
              | inr other ↦ subst (Keeps (old.nodes x)) (sym (set_beside mid.nodes i after x other)) (gains.grows.kept x)
            ]);
      };
      owners = λ x. elim (cases_eq x i) [
        | inl here ↦ owner_none (old.nodes x) (new.nodes x) (ap old.nodes here ∙ gains.free)
        | inr other ↦ subst (KeepsOwner (old.nodes x)) (sym (node_beside mid new i change changes x other)) (gains.owners x)
      ];
    }

-- a path leads to a directory
abbrev pub LeadsToDirectory : Tree → List ℕ → Type 0
LeadsToDirectory tree path = (node : Node) × LeadsTo tree path node × (is_directory node ≡ true)

abbrev pub grown_directory : (old new : Tree) (path : List ℕ) → Grows old new → LeadsToDirectory old path → LeadsToDirectory new path
grown_directory old new path grows led =
    let i = led.1.number in
    let stays = (grows.kept i).1 led.0 led.1.stands in
    (stays.0, record { number = i; walked = grown_path old new path i grows led.1.walked; stands = stays.1 }, stays.2 ∙ led.2)

-- changing a directory without changing its content keeps all nodes and their names
pub directory_changed : (old new : Tree) (path : List ℕ) (change : Node → Node) (led : LeadsToDirectory old path) → ChangesAt old new led.1.number change
    → HasNamesOf (Some led.0) (Some (change led.0)) → is_directory (change led.0) ≡ is_directory led.0 → Grows old new
directory_changed old new path change led changes names kind =
    let i = led.1.number in
    let keeps : Keeps (Some led.0) (Some (change led.0)) = (
      names,
      λ x is.
          let same : led.0 ≡ x = cc in
          (change led.0, refl, kind ∙ ap is_directory same, λ plain. absurd (true≢false (sym led.2 ∙ (ap is_directory same ∙ plain)))),
    ) in
    record {
      edition = changes.edition;
      kept = λ x. subst (λ (ns : ℕ → Option Node). Keeps (old.nodes x) (ns x)) (sym changes.nodes)
          (nodes_set old.nodes i (option_map change (old.nodes i)) (subst (λ n. Keeps n (option_map change n)) (sym led.1.stands) keeps) x);
    }

-- node `i` of a tree is given an owner, and the other nodes keep theirs
pub record Gives (old new : Tree) (i : ℕ) (owner : ℕ × ℕ × ℕ) : Type 0 where
  pub grows : Grows old new
  pub beside : (x : ℕ) → x ≢ i → KeepsOwner (old.nodes x) (new.nodes x)
  pub node : Node
  pub stands : new.nodes i ≡ Some node
  pub owned : owner_told node ≡ owner

-- a change of a directory that sets its owner gives it this owner
pub directory_given : (old new : Tree) (path : List ℕ) (change : Node → Node) (owner : ℕ × ℕ × ℕ) (led : LeadsToDirectory old path)
    → ChangesAt old new led.1.number change → HasNamesOf (Some led.0) (Some (change led.0)) → is_directory (change led.0) ≡ is_directory led.0
    → owner_told (change led.0) ≡ owner → Gives old new led.1.number owner
directory_given old new path change owner led changes names kind owned =
    let i = led.1.number in
    record {
      grows = directory_changed old new path change led changes names kind;
      beside = λ x other. subst (KeepsOwner (old.nodes x)) (sym (node_beside old new i change changes x other)) (owner_same (old.nodes x));
      node = change led.0;
      stands = node_changed old new i change led.0 changes led.1.stands;
      owned = owned;
    }

-- two paths lead to one node
abbrev pub LeadBoth : Tree → List ℕ → List ℕ → Type 0
LeadBoth tree source target = (i : ℕ) × (walk tree user source ≡ Ok i) × (walk tree user target ≡ Ok i)

pub grown_both : (old new : Tree) (source target : List ℕ) → Grows old new → LeadBoth old source target → LeadBoth new source target
grown_both old new source target grows led = (led.0, grown_path old new source led.0 grows led.1, grown_path old new target led.0 grows led.2)

-- an accepted Link keeps all nodes and their names, and both paths lead to one node
pub link_grows : (state : State) (now : ℕ) (source target : List ℕ) (done : Done) → verdict state (Link user now source target) ≡ None
    → Grows state.tree (step state (Link user now source target) done).tree × LeadBoth (step state (Link user now source target) done).tree source target
    × (list_any has_zero (source ∷ target ∷ []) ≡ false)
    × KeepsOwners state.tree (step state (Link user now source target) done).tree
    × EntersAt state.tree (step state (Link user now source target) done).tree target
unfolding verdict changed_by
link_grows state now source target done accepted =
    let old = state.tree in
    let first = passes_paths old (source ∷ target ∷ []) (of_node (walk old user source) (link_refusal state user target)) accepted in
    let led = node_found (walk old user source) (link_refusal state user target) first.others_pass in
    let i = led.0 in
    let asked = not_first (is_directory (node_at old i)) refusals.IsDirectory _ led.2 in
    let parent = parent_found (walk_parent old user target) refusals.Exists (link_tests state user i) asked.1 in
    let d = parent.0 in
    let name = parent.1 in
    let may = link_passed state user source target i d name accepted led.1 parent.2 in
    let reached = reaches old target d name parent.2 in
    let mid = set_at old.nodes i (linked now (old.nodes i)) in
    let size = size_with_entry (add_link now i state) d in
    let links : (x : ℕ) → Keeps (old.nodes x) (mid x) = nodes_set old.nodes i (linked now (old.nodes i)) (linked_keeps now (old.nodes i)) in
    let held : searched (old.nodes d) ≡ Ok reached.names = reached.searched in
    let fresh : get reached.names name ≡ None = ap (λ names. get names name) (sym (searched_names (old.nodes d) reached.names held)) ∙ may.takes.fresh in
    let there : searched (mid d) ≡ Ok reached.names = elim (cases_eq d i) [
      | inl here ↦ ap searched (ap mid here ∙ set_here old.nodes i (linked now (old.nodes i))) ∙ (same_names (old.nodes i) ∙ (ap (λ j. searched (old.nodes j)) (sym here) ∙ held))
      | inr other ↦ ap searched (set_beside old.nodes i (linked now (old.nodes i)) d other) ∙ held
    ] in
    let new = (at_time now (after_link state now i d name)).tree in
    let enters = name_entered mid now size d i name reached.names there fresh in
    let counts : (x : ℕ) → KeepsOwner (old.nodes x) (mid x) = owners_set old.nodes i (linked now (old.nodes i)) (linked_owner now (old.nodes i)) in
    let whole : EntersName old.nodes new.nodes d name i = record {
      kept = λ x. keeps_then (old.nodes x) (mid x) (new.nodes x) (links x) (enters.kept x);
      owners = λ x. owner_then (old.nodes x) (mid x) (new.nodes x) (counts x) (enters.owners x);
      named = enters.named;
      others = enters_between old.nodes mid new.nodes new.nodes d name i
          (set_keeps HasNoOthers others_same old.nodes i (linked now (old.nodes i)) (linked_others now (old.nodes i))) enters (λ x. others_same (new.nodes x));
    } in
    let grows : Grows old new = record { edition = refl; kept = whole.kept } in
    let both : LeadBoth new source target =
    (i, grown_path old new source i grows led.1, path_made old new target d i name refl reached whole) in
    let at : EntersAt old new target = record { directory = d; name = name; number = i; edition = refl; reached = reached; enters = whole } in
    let Left : Tree → Type 0 = λ tree. Grows old tree × LeadBoth tree source target × KeepsOwners old tree × EntersAt old tree target in
    let made : Left (at_time now (on_parent state (walk_parent old user target) (after_link state now i))).tree =
    subst (λ (p : Option (Result (ℕ × List ℕ) Refusal)). Left (at_time now (on_parent state p (after_link state now i))).tree) (sym parent.2)
    (grows, both, whole.owners, at) in
    let all = subst (λ (r : Result ℕ Refusal).
    Left (at_time now (on_node state r (λ j. on_parent state (walk_parent old user target) (after_link state now j)))).tree)
    (sym led.1) made in
    (all.0, all.1, first.no_zero, all.2, all.3)
  where
    same_names : (node : Option Node) → searched (linked now node) ≡ searched node
    same_names None = refl
    same_names (Some node) = refl
