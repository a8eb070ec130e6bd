-- The i-numbers freed by calls that remove names.
use Rattle.std.proofs.Common.{◌≡◌, ◌≢◌, ◌∙◌, sym, ap, subst, refl, ℕ, ◌+◌, ◌-◌, ◌≤◌, ◌==◌, Bool, true, false, cond, nat_le, List, [], ◌∷◌, ◌++◌, Option, None, Some, Result, Ok, Err, inl, inr, arith}
use Rattle.std.specs.List.{count_by}
use Rattle.std.specs.Option.{is_none, is_some, ok_or, unwrap_or}
use Rattle.std.proofs.lemmas.Bool.{cases_eq, eq-eqb, ne_eqb}
use Rattle.std.proofs.lemmas.Bool.Decides.{nat_tests}
use Rattle.std.proofs.lemmas.List.Sums.{sum_by-cons}
use Rattle.vol_layout.specs.Edition.{constants}
use Rattle.vol_layout.specs.Geometry.{geometry_of}
use Rattle.vol_layout.specs.declared.geometry.Geometry.{Geometry}
use Rattle.vol_layout.specs.declared.mode.Kind.TheVariants as kinds
use Rattle.vol_file.specs.Rules.{kind_at, Rules3To7}
use Rattle.vol_judge.proofs.ImageGraphs.{used_from}
use Rattle.vol_judge.specs.Graph.{kind_in}
use Rattle.vol_dir.specs.Access.{user}
use Rattle.vol_dir.specs.Names.{Names, get, remove}
use Rattle.vol_dir.specs.Tree.{Content, Body, Directory, Device, Node, Tree, State, tree, node_of, is_number}
use Rattle.pdp_words.specs.Steps.{and_then}
use Rattle.vol_dir.specs.Walk.{root, components, map_of, is_directory, walk_from, walk, walk_parent}
use Rattle.vol_dir.proofs.PathJoins.{walk_from-append}
use Rattle.vol_dir.specs.declared.refusal.Refusal.{Refusal}
use Rattle.vol_dir.specs.declared.refusal.Refusal.TheVariants as refusals
use Rattle.vol_change.specs.Edits.{set_at, at_time, change_names, remove_entry, remove_node, drop_link, release}
use Rattle.vol_change.specs.Effects.{after_unlink, after_rmdir}
use Rattle.vol_change.specs.Nodes.{no_node, node_at, names_at, number_of_name}
use Rattle.vol_change.specs.Ready.{Rules1To12}
use Rattle.vol_change.proofs.NodeEdits.{set_here}
use Rattle.vol_change.proofs.ReadyLaws.{ready_whole, ready_graph}
use Rattle.vol_change.proofs.SideStates.{set_beside}
use Rattle.vol_volume.specs.Step.{step, changed_by, on_parent}
use Rattle.vol_volume.specs.Verdict.{verdict, has_name, of_parent, unlink_tests, rmdir_tests}
use Rattle.vol_volume.specs.Volume.{Mounted, Accepts, reads_as}
use Rattle.vol_volume.specs.declared.calls.Call.{Call}
use Rattle.vol_volume.specs.declared.calls.Call.TheVariants.{Unlink, Rmdir}
use Rattle.vol_volume.specs.declared.calls.Done.{Done}
use Rattle.vol_volume.proofs.Accepted.{unlink_passed, rmdir_passed}
use Rattle.vol_volume.proofs.Journals.{reads_made}
use Rattle.vol_volume.proofs.NodeReadings.{node_of_kind, links_are}
use Rattle.vol_batch.specs.Batch.{AreMade}
use Rattle.vol_batch.proofs.MadeNames.{KeepsNames, found, found_in, path_kept, searched_names}
use Rattle.vol_volume.proofs.TreeWalks.{Reaches, named, searched, passes_first, reaches, parent_found}
use Rattle.vol_batch.specs.FreedNumbers.{own_names, led_to, takes_name, FreesNumbers}
use Rattle.vol_batch.specs.Removal.{Takes, call_of, names_of}
use Rattle.vol_batch.proofs.GoneTrees.{Stays, kept_name, root_stays, stays_rmdir, stays_unlink, unlinked, without}

-- replacing a node by one with the same value of `f` doesn't change `f` of any node
pub set_alike : {X : Type 0} (f : Option Node → X) (nodes : ℕ → Option Node) (d : ℕ) (changed : Option Node) (x : ℕ) → f changed ≡ f (nodes d)
    → f (set_at nodes d changed x) ≡ f (nodes x)
set_alike f nodes d changed x same = elim (cases_eq x d) [
  | inl here ↦ ap f (ap (set_at nodes d changed) here ∙ set_here nodes d changed) ∙ (same ∙ ap (λ j. f (nodes j)) (sym here))
  | inr other ↦ ap f (set_beside nodes d changed x other)
]

-- after a name is removed from it, a directory is still one
map_kept : (name : List ℕ) (held : Content) → is_some (map_of (change_names (λ ns. remove ns name) held)) ≡ is_some (map_of held)
map_kept name (Body bytes) = refl
map_kept name (Directory names) = refl
map_kept name (Device type addresses) = refl

abbrev pub is_map : Option Node → Bool
is_map node = is_directory (unwrap_or node no_node)

without_map : (now : ℕ) (name : List ℕ) (node : Option Node) → is_map (without now name node) ≡ is_map node
without_map now name None = refl
without_map now name (Some node) = map_kept name node.content

without_own : (now : ℕ) (name : List ℕ) (node : Option Node) → own_names (without now name node) ≡ own_names node
without_own now name None = refl
without_own now name (Some node) = ap (λ b. cond b 1 node.links) (map_kept name node.content)

abbrev pub links_of : Option Node → ℕ
links_of node = (unwrap_or node no_node).links

pub without_links : (now : ℕ) (name : List ℕ) (node : Option Node) → links_of (without now name node) ≡ links_of node
without_links now name None = refl
without_links now name (Some node) = refl

-- a directory has one own name
own_map : (node : Option Node) → is_map node ≡ true → own_names node ≡ 1
own_map None is = absurd (cc)
own_map (Some node) is = ap (λ b. cond b 1 node.links) is

own_links : (node : Option Node) → is_map node ≡ false → own_names node ≡ links_of node
own_links None is = refl
own_links (Some node) is = ap (λ b. cond b 1 node.links) is

-- a directory with one link fewer has the same number of own names
map_unlinked : (now : ℕ) (node : Option Node) → is_map node ≡ true → own_names (unlinked now node) ≡ own_names node
map_unlinked now None is = refl
map_unlinked now (Some node) is = ap (λ b. cond b 1 (node.links - 1)) is ∙ sym (ap (λ b. cond b 1 node.links) is)

own_unlinked : (now : ℕ) (node : Option Node) → is_map node ≡ false → own_names (unlinked now node) ≡ own_names node - 1
own_unlinked now None is = refl
own_unlinked now (Some node) is = ap (λ b. cond b 1 (node.links - 1)) is ∙ sym (ap (λ b. cond b 1 node.links - 1) is)

-- replacing a node by one with one own name fewer changes only the own names of this node
own_set : (nodes : ℕ → Option Node) (i : ℕ) (changed : Option Node) → own_names changed ≡ own_names (nodes i) - 1 → (x : ℕ)
    → own_names (set_at nodes i changed x) ≡ own_names (nodes x) - cond (x == i) 1 0
own_set nodes i changed less x = elim (cases_eq x i) [
  | inl here ↦
      ap own_names (ap (set_at nodes i changed) here ∙ set_here nodes i changed)
      ∙ (less ∙ (ap (λ j. own_names (nodes j) - 1) (sym here) ∙ ap (λ b. own_names (nodes x) - cond b 1 0) (sym (eq-eqb x i here))))
  | inr other ↦
      let none : own_names (nodes x) ≡ own_names (nodes x) - 0 = omega arith in
      ap own_names (set_beside nodes i changed x other) ∙ (none ∙ ap (λ b. own_names (nodes x) - cond b 1 0) (sym (ne_eqb x i other)))
]

-- a node that may be searched is a directory
pub searched_is : (node : Option Node) (names : Names) → searched node ≡ Ok names → is_map node ≡ true
searched_is None names is = absurd (cc)
searched_is (Some node) names is = by node.content is
  where
    by : (held : Content) → named (map_of held) ≡ Ok names → is_some (map_of held) ≡ true
    by (Body bytes) is = absurd (cc)
    by (Directory ns) is = refl
    by (Device type addresses) is = absurd (cc)

-- a walk to a directory followed by a name in it is a walk of the whole path
pub walk_joined : (tree : Tree) (path : List ℕ) (front : List (List ℕ)) (name : List ℕ) (d i : ℕ) → components path ≡ front ++ name ∷ []
    → walk_from tree user (root tree) front ≡ Ok d → found (tree.nodes d) name ≡ Ok i → walk tree user path ≡ Ok i
unfolding walk
walk_joined tree path front name d i parts walks found =
    ap (walk_from tree user (root tree)) parts
    ∙ (walk_from-append tree user (root tree) front (name ∷ [])
    ∙ (ap (λ (r : Result ℕ Refusal). and_then r (λ j. walk_from tree user j (name ∷ []))) walks
    ∙ ap (λ (r : Result ℕ Refusal). and_then r (λ j. Ok j)) found))

-- a call removed a name: one own name of the node that the path led to is gone, and no name is new
pub record TakesName (state new : State) (path : List ℕ) : Type 0 where
  pub i : ℕ
  pub walked : walk state.tree user path ≡ Ok i
  pub same : root new.tree ≡ root state.tree
  pub kept : KeepsNames new.tree.nodes state.tree.nodes
  pub own : (x : ℕ) → own_names (new.tree.nodes x) ≡ own_names (state.tree.nodes x) - cond (x == i) 1 0

-- removing a name makes no new names
without_was : (now : ℕ) (name word : List ℕ) (node : Option Node) (j : ℕ) → found (without now name node) word ≡ Ok j → found node word ≡ Ok j
without_was now name word None j is = absurd (cc)
without_was now name word (Some node) j is = by node.content is
  where
    some_kept : (less more : Option ℕ) → ((y : ℕ) → less ≡ Some y → more ≡ Some y) → ok_or less refusals.NoEntry ≡ Ok j → ok_or more refusals.NoEntry ≡ Ok j
    some_kept None more all is = absurd (cc)
    some_kept (Some y) more all is = ap (λ (o : Option ℕ). ok_or o refusals.NoEntry) (all y refl) ∙ is

    by : (held : Content) → found_in (named (map_of (change_names (λ ns. remove ns name) held))) word ≡ Ok j → found_in (named (map_of held)) word ≡ Ok j
    by (Body bytes) is = absurd (cc)
    by (Directory ns) is = some_kept (get (remove ns name) word) (get ns word) (kept_name ns name word) is
    by (Device type addresses) is = absurd (cc)

names_were : (old new : ℕ → Option Node) (now d : ℕ) (name : List ℕ) → Stays (set_at old d (without now name (old d))) new → KeepsNames new old
names_were old new now d name stays x word j is =
    let less = without now name (old d) in
    let some : new x ≢ None = λ none.
    let no : Err refusals.NotDirectory ≡ Ok j = sym (ap (λ n. found n word) none) ∙ is in
    absurd (cc) in
    let mid : found (set_at old d less x) word ≡ Ok j = ap (λ s. found_in s word) (sym (stays x some).1) ∙ is in
    elim (cases_eq x d) [
      | inl here ↦
          ap (λ k. found (old k) word) here
          ∙ without_was now name word (old d) j (ap (λ n. found n word) (sym (ap (set_at old d less) here ∙ set_here old d less)) ∙ mid)
      | inr other ↦ ap (λ n. found n word) (sym (set_beside old d less x other)) ∙ mid
    ]

-- the path of a name that exists leads to the node that it names
number_walked : (tree : Tree) (path : List ℕ) (d : ℕ) (name : List ℕ) → Reaches tree path d name → has_name tree d name ≡ true
    → walk tree user path ≡ Ok (number_of_name tree d name)
number_walked tree path d name reached there =
    walk_joined tree path reached.front name d (number_of_name tree d name) reached.parts reached.walks
    (ap (λ s. found_in s name) reached.searched
    ∙ (ap (λ (ns : Names). ok_or (get ns name) refusals.NoEntry) (sym (searched_names (tree.nodes d) reached.names reached.searched))
    ∙ by (get (names_at tree d) name) there))
  where
    by : (entry : Option ℕ) → is_some entry ≡ true → ok_or entry refusals.NoEntry ≡ Ok (unwrap_or entry 0)
    by None is = absurd (cc)
    by (Some i) is = refl

-- an Unlink removes one own name of its node
unlink_own : (state : State) (now d i : ℕ) (name : List ℕ) → is_map (state.tree.nodes i) ≡ false → (x : ℕ)
    → own_names ((release now i (remove_entry now d name state)).tree.nodes x) ≡ own_names (state.tree.nodes x) - cond (x == i) 1 0
unlink_own state now d i name plain x =
    let nodes = state.tree.nodes in
    let first = remove_entry now d name state in
    let same : own_names (first.tree.nodes x) ≡ own_names (nodes x) = set_alike own_names nodes d (without now name (nodes d)) x (without_own now name (nodes d)) in
    let none : is_map (first.tree.nodes i) ≡ false = set_alike is_map nodes d (without now name (nodes d)) i (without_map now name (nodes d)) ∙ plain in
    elim (nat_le (node_at first.tree i).links 1) as (λ b. nat_le (node_at first.tree i).links 1 ≡ b
    → own_names ((cond b (remove_node i first) (drop_link now i first)).tree.nodes x) ≡ own_names (nodes x) - cond (x == i) 1 0) [
      | true ↦ λ few.
          let own : own_names (first.tree.nodes i) ≡ (node_at first.tree i).links = own_links (first.tree.nodes i) none in
          let one : (node_at first.tree i).links ≤ 1 = grind (arith, nat_tests, few) in
          own_set first.tree.nodes i None (omega (arith, own, one)) x ∙ ap (λ n. n - cond (x == i) 1 0) same
      | false ↦ λ many. own_set first.tree.nodes i (unlinked now (first.tree.nodes i)) (own_unlinked now (first.tree.nodes i) none) x ∙ ap (λ n. n - cond (x == i) 1 0) same
    ] refl

unlink_takes : (state : State) (path : List ℕ) (now : ℕ) (done : Done) → verdict state (Unlink user now path) ≡ None
    → TakesName state (step state (Unlink user now path) done) path
unfolding verdict changed_by
unlink_takes state path now done accepted =
    let first = passes_first state.tree path (of_parent (walk_parent state.tree user path) refusals.IsDirectory (unlink_tests state user)) accepted in
    let parent = parent_found (walk_parent state.tree user path) refusals.IsDirectory (unlink_tests state user) first.others_pass in
    let d = parent.0 in
    let name = parent.1 in
    let may = unlink_passed state user path d name accepted parent.2 in
    let i = number_of_name state.tree d name in
    subst (λ (p : Option (Result (ℕ × List ℕ) Refusal)). TakesName state (at_time now (on_parent state p (after_unlink state now))) path) (sym parent.2) (record {
      i = i;
      walked = number_walked state.tree path d name (reaches state.tree path d name parent.2) may.0;
      same = root_stays (remove_entry now d name state) now i;
      kept = names_were state.tree.nodes (after_unlink state now d name).tree.nodes now d name (stays_unlink state now now d name);
      own = unlink_own state now d i name may.1;
    })

-- an Rmdir removes one own name of its node
rmdir_own : (state : State) (now d : ℕ) (name : List ℕ) → is_map (state.tree.nodes d) ≡ true
    → is_map (state.tree.nodes (number_of_name state.tree d name)) ≡ true → (x : ℕ)
    → own_names ((after_rmdir state now d name).tree.nodes x) ≡ own_names (state.tree.nodes x) - cond (x == number_of_name state.tree d name) 1 0
rmdir_own state now d name parent child x =
    let i = number_of_name state.tree d name in
    let nodes = state.tree.nodes in
    let mid = set_at nodes d (without now name (nodes d)) in
    let less = set_at mid d (unlinked now (mid d)) in
    let whole : is_map (mid d) ≡ true = set_alike is_map nodes d (without now name (nodes d)) d (without_map now name (nodes d)) ∙ parent in
    let same : (y : ℕ) → own_names (less y) ≡ own_names (nodes y) =
    λ y. set_alike own_names mid d (unlinked now (mid d)) y (map_unlinked now (mid d) whole)
    ∙ set_alike own_names nodes d (without now name (nodes d)) y (without_own now name (nodes d)) in
    let one : own_names (less i) ≡ 1 = same i ∙ own_map (nodes i) child in
    own_set less i None (omega (arith, one)) x ∙ ap (λ n. n - cond (x == i) 1 0) (same x)

rmdir_takes : (state : State) (path : List ℕ) (now : ℕ) (done : Done) → verdict state (Rmdir user now path) ≡ None
    → TakesName state (step state (Rmdir user now path) done) path
unfolding verdict changed_by
rmdir_takes state path now done accepted =
    let first = passes_first state.tree path (of_parent (walk_parent state.tree user path) refusals.Invalid (rmdir_tests state user)) accepted in
    let parent = parent_found (walk_parent state.tree user path) refusals.Invalid (rmdir_tests state user) first.others_pass in
    let d = parent.0 in
    let name = parent.1 in
    let may = rmdir_passed state user path d name accepted parent.2 in
    let reached = reaches state.tree path d name parent.2 in
    subst (λ (p : Option (Result (ℕ × List ℕ) Refusal)). TakesName state (at_time now (on_parent state p (after_rmdir state now))) path) (sym parent.2) (record {
      i = number_of_name state.tree d name;
      walked = number_walked state.tree path d name reached may.there;
      same = refl;
      kept = names_were state.tree.nodes (after_rmdir state now d name).tree.nodes now d name (stays_rmdir state now now d name);
      own = rmdir_own state now d name (searched_is (state.tree.nodes d) reached.names reached.searched) may.gone;
    })

-- each accepted call of a removal satisfies `TakesName`
pub call_takes : (state : State) (path : List ℕ) (now : ℕ) (names : Option Names) (done : Done) → verdict state (call_of now path names) ≡ None
    → TakesName state (step state (call_of now path names) done) path
call_takes state path now None done accepted = unlink_takes state path now done accepted
call_takes state path now (Some names) done accepted = rmdir_takes state path now done accepted

call_counts : (tree : Tree) (path : List ℕ) (now x i : ℕ) (names : Option Names) → walk tree user path ≡ Ok i
    → takes_name tree x (call_of now path names) ≡ (x == i)
call_counts tree path now x i None led = ap (led_to x) led
call_counts tree path now x i (Some names) led = ap (led_to x) led

-- a call is one of a removal
abbrev pub IsTaking : Call → Type 0
IsTaking call = (now : ℕ) × (path : List ℕ) × (names : Option Names) × (call ≡ call_of now path names)

abbrev pub AreTaking : List Call → Type 0
AreTaking [] = Unit {0}
AreTaking (call ∷ calls) = IsTaking call × AreTaking calls

taking_both : (calls others : List Call) → AreTaking calls → AreTaking others → AreTaking (calls ++ others)
taking_both [] others first second = second
taking_both (call ∷ calls) others first second = (first.0, taking_both calls others first.1 second)

pub takes_taking : (tree : Tree) (now : ℕ) (paths : List (List ℕ)) (calls : List Call) → Takes tree now paths calls → AreTaking calls
takes_taking tree now _ _ Takes.none = tt
takes_taking tree now _ _ (Takes.next path rest inner others below beside) =
    taking_both inner (call_of now path (names_of tree path) ∷ others) (takes_taking tree now _ inner below)
    ((now, path, names_of tree path, refl), takes_taking tree now rest others beside)

-- a call of a removal that a volume accepts satisfies `TakesName`
taken_by : (old mid : Mounted) (call : Call) (done : Done) (taking : IsTaking call) → Accepts old mid call done
    → TakesName (reads_as old.edition old.image) (reads_as mid.edition mid.image) taking.1
taken_by old mid call done taking accepts =
    let state = reads_as old.edition old.image in
    let now : reads_as mid.edition mid.image ≡ step state call done =
    ap (λ edition. reads_as edition mid.image) accepts.edition ∙ reads_made old.edition old.image mid.image call done accepts.performed in
    subst (λ (s : State). TakesName state s taking.1) (sym now)
    (subst (λ (c : Call). verdict state c ≡ None → TakesName state (step state c done) taking.1) (sym taking.3)
    (call_takes state taking.1 taking.0 taking.2 done) accepts.accepted)

-- all calls together remove as many own names of a node as there are calls whose paths lead to it, in any tree that has all the names
names_taken : (old new : Mounted) (calls : List Call) (tree : Tree) → AreTaking calls → AreMade old calls new
    → root tree ≡ root (reads_as old.edition old.image).tree → KeepsNames (reads_as old.edition old.image).tree.nodes tree.nodes → (x : ℕ)
    → own_names ((reads_as new.edition new.image).tree.nodes x)
    ≡ own_names ((reads_as old.edition old.image).tree.nodes x) - count_by (takes_name tree x) calls
unfolding AreMade
names_taken old new [] tree taking made same keeps x =
    let own = own_names ((reads_as old.edition old.image).tree.nodes x) in
    let none : own ≡ own - 0 = omega arith in
    ap (λ (v : Mounted). own_names ((reads_as v.edition v.image).tree.nodes x)) made ∙ none
names_taken old new (call ∷ calls) tree taking made same keeps x =
    let mid : Mounted = made.0 in
    let here = taking.0 in
    let takes = taken_by old mid call made.1 here made.2 in
    let rest = names_taken mid new calls tree taking.1 made.3 (same ∙ sym takes.same)
    (λ y name i is. keeps y name i (takes.kept y name i is)) x in
    let one = takes.own x in
    let led = path_kept (reads_as old.edition old.image).tree tree here.1 takes.i same keeps takes.walked in
    let counts : takes_name tree x call ≡ (x == takes.i) = ap (takes_name tree x) here.3 ∙ call_counts tree here.1 here.0 x takes.i here.2 led in
    let all : count_by (takes_name tree x) (call ∷ calls) ≡ cond (x == takes.i) 1 0 + count_by (takes_name tree x) calls =
    sum_by-cons (λ c. cond (takes_name tree x c) 1 0) call calls ∙ ap (λ b. cond b 1 0 + count_by (takes_name tree x) calls) counts in
    omega (arith, rest, one, all)

-- a node of a sound image with an i-number at or above the root's has at least one own name
own_some : (geometry : Geometry) (image : List ℕ) (i : ℕ) (node : Node) → Rules1To12 geometry image → (constants geometry.edition).root ≤ i
    → (tree geometry image).nodes i ≡ Some node → 1 ≤ own_names (Some node)
unfolding tree
own_some geometry image i node ready low is =
    let whole = ready_whole geometry image ready in
    let files : Rules3To7 geometry image = record { blocks = whole.blocks; sound = whole.sound } in
    let used : kind_in geometry image i ≢ kinds.Free = λ free. by (is_number geometry i) refl is free in
    let inside = used_from geometry image i used in
    let links = links_are geometry image i inside.0 files (record { first = low; last = inside.1; allocated = inside.2 }) in
    let least = (ready_graph geometry image ready).linked i low used in
    let some : 1 ≤ node.links = omega (arith, least, sym links ∙ ap links_of is) in
    elim (is_directory node) as (λ b. 1 ≤ cond b 1 node.links) [
      | true ↦ omega arith
      | false ↦ some
    ]
  where
    by : (number : Bool) → is_number geometry i ≡ number → cond number (node_of geometry image i) None ≡ Some node
        → cond (is_number geometry i) (kind_at geometry image i) kinds.Free ≡ kinds.Free → ⊥
    by false outside is free = absurd (cc)
    by true inside is free =
        let kind : kind_at geometry image i ≡ kinds.Free = ap (λ b. cond b (kind_at geometry image i) kinds.Free) (sym inside) ∙ free in
        let none : None ≡ Some node = sym (node_of_kind geometry image i kinds.Free kind) ∙ is in
        absurd (cc)

-- after the calls an i-number is free if and only if all own names of its node were removed
pub numbers_freed : (old new : Mounted) (calls : List Call) → AreTaking calls → AreMade old calls new
    → Rules1To12 (geometry_of new.edition new.image) new.image → new.edition ≡ old.edition
    → FreesNumbers (reads_as old.edition old.image).tree calls (reads_as new.edition new.image).tree
unfolding tree
numbers_freed old new calls taking made ready same i low =
    let before = (reads_as old.edition old.image).tree in
    by (before.nodes i) ((reads_as new.edition new.image).tree.nodes i) refl (subst (λ e. (constants e).root ≤ i) (sym same) low)
    (names_taken old new calls before taking made refl (λ x name j is. is) i)
  where
    by : (was is : Option Node) → (reads_as new.edition new.image).tree.nodes i ≡ is → (constants new.edition).root ≤ i
        → own_names is ≡ own_names was - count_by (takes_name (reads_as old.edition old.image).tree i) calls
        → is_none is ≡ nat_le (own_names was) (count_by (takes_name (reads_as old.edition old.image).tree i) calls)
    by was None there low taken =
        let all : own_names was ≤ count_by (takes_name (reads_as old.edition old.image).tree i) calls = omega (arith, taken) in
        grind (arith, nat_tests, all)
    by was (Some node) there low taken =
        let some = own_some (geometry_of new.edition new.image) new.image i node ready low there in
        let less : count_by (takes_name (reads_as old.edition old.image).tree i) calls + 1 ≤ own_names was = omega (arith, taken, some) in
        grind (arith, nat_tests, less)
