-- A tree where a directory lost a name, after an accepted call.
use Rattle.std.proofs.Common.{◌≡◌, ◌≢◌, ◌∙◌, sym, ap, refl, ℕ, ◌-◌, true, false, cond, nat_le, List, None, Some, Ok, inl, inr}
use Rattle.std.specs.Prelude.{Option}
use Rattle.std.specs.Option.{option_map}
use Rattle.std.specs.Str.{bytes_eq}
use Rattle.std.proofs.lemmas.Bool.{cases_eq}
use Rattle.vol_file.proofs.PlaceLists.{bytes_same}
use Rattle.vol_dir.specs.Names.{Names, get, remove}
use Rattle.vol_dir.specs.Tree.{Content, Body, Directory, Device, Node, Tree, State}
use Rattle.vol_dir.specs.Walk.{root, map_of, search}
use Rattle.vol_dir.proofs.NameMaps.{get_remove}
use Rattle.vol_dir.specs.Access.{user}
use Rattle.vol_change.specs.Edits.{set_at, change_names, modified, stamped, at_time, remove_entry, drop_link, release, remove_node}
use Rattle.vol_change.specs.Effects.{after_unlink, after_rmdir}
use Rattle.vol_change.specs.Nodes.{node_at, number_of_name}
use Rattle.vol_change.proofs.SideStates.{set_beside}
use Rattle.vol_change.proofs.NodeEdits.{set_here}
use Rattle.vol_volume.proofs.TreeWalks.{named, searched}
use Rattle.vol_batch.proofs.GoneNames.{LosesName}

-- each node that still exists existed before, and is searched as before
abbrev pub Stays : (ℕ → Option Node) → (ℕ → Option Node) → Type 0
Stays old new = (x : ℕ) → new x ≢ None → (old x ≢ None) × (searched (new x) ≡ searched (old x))

stays_then : (old mid new : ℕ → Option Node) → Stays old mid → Stays mid new → Stays old new
stays_then old mid new first second x is =
    let b = second x is in
    let a = first x b.0 in
    (a.0, b.1 ∙ a.1)

-- removing a node leaves all others as they were
stays_removed : (nodes : ℕ → Option Node) (i : ℕ) → Stays nodes (set_at nodes i None)
stays_removed nodes i x is = elim (cases_eq x i) [
  | inl here ↦ absurd (is (ap (set_at nodes i None) here ∙ set_here nodes i None))
  | inr other ↦ let same = set_beside nodes i None x other in (λ none. is (same ∙ none), ap searched same)
]

-- a node with one link fewer
abbrev pub unlinked : ℕ → Option Node → Option Node
unlinked now node = option_map (λ (node : Node). record (stamped now node) { links = node.links - 1 }) node

unlinked_alike : (now : ℕ) (node : Option Node) → searched (unlinked now node) ≡ searched node
unlinked_alike now None = refl
unlinked_alike now (Some node) = refl

-- a node with one link fewer is searched as before
stays_unlinked : (nodes : ℕ → Option Node) (now i : ℕ) → Stays nodes (set_at nodes i (unlinked now (nodes i)))
stays_unlinked nodes now i x is = elim (cases_eq x i) [
  | inl here ↦
      let same = ap (set_at nodes i (unlinked now (nodes i))) here ∙ (set_here nodes i (unlinked now (nodes i)) ∙ ap (λ j. unlinked now (nodes j)) (sym here)) in
      (λ none. is (same ∙ ap (unlinked now) none), ap searched same ∙ unlinked_alike now (nodes x))
  | inr other ↦ let same = set_beside nodes i (unlinked now (nodes i)) x other in (λ none. is (same ∙ none), ap searched same)
]

-- a node that loses a link, and is removed with the last one, satisfies `Stays`
stays_released : (state : State) (now i : ℕ) → Stays state.tree.nodes (release now i state).tree.nodes
stays_released state now i =
    elim (nat_le (node_at state.tree i).links 1) as (λ b. Stays state.tree.nodes (cond b (remove_node i state) (drop_link now i state)).tree.nodes) [
      | true ↦ stays_removed state.tree.nodes i
      | false ↦ stays_unlinked state.tree.nodes now i
    ]

-- the root is unchanged when a node loses a link
pub root_stays : (state : State) (now i : ℕ) → root (release now i state).tree ≡ root state.tree
root_stays state now i =
    elim (nat_le (node_at state.tree i).links 1) as (λ b. root (cond b (remove_node i state) (drop_link now i state)).tree ≡ root state.tree) [
      | true ↦ refl
      | false ↦ refl
    ]

-- a directory with one name fewer
abbrev pub without : ℕ → List ℕ → Option Node → Option Node
without now name node = option_map (λ (node : Node). record (modified now node) { content = change_names (λ names. remove names name) node.content }) node

without_name : (now : ℕ) (name : List ℕ) (node : Option Node) (names : Names) → searched node ≡ Ok names → searched (without now name node) ≡ Ok (remove names name)
without_name now name None names is = cc
without_name now name (Some node) names is =
    elim node.content as (λ (c : Content). named (map_of c) ≡ Ok names
    → named (map_of (change_names (λ ns. remove ns name) c)) ≡ Ok (remove names name)) [
      | Body bytes ↦ λ e. cc
      | Directory held ↦ λ e. let same : held ≡ names = cc in ap (λ ns. Ok (remove ns name)) same
      | Device type addresses ↦ λ e. cc
    ] is

with_name : (now : ℕ) (name : List ℕ) (node : Option Node) (others : Names) → searched (without now name node) ≡ Ok others → (names : Names) × (others ≡ remove names name)
with_name now name None others is = cc
with_name now name (Some node) others is =
    elim node.content as (λ (c : Content). named (map_of (change_names (λ ns. remove ns name) c)) ≡ Ok others
    → (names : Names) × (others ≡ remove names name)) [
      | Body bytes ↦ λ e. cc
      | Directory held ↦ λ e. (held, cc)
      | Device type addresses ↦ λ e. cc
    ] is

-- a name that was removed from a map isn't found in it
lost_name : (names : Names) (name : List ℕ) → get (remove names name) name ≡ None
lost_name names name = get_remove names name name ∙ ap (λ b. cond b None (get names name)) (bytes_same name name refl)

-- any name that is still found after a removal was found before
pub kept_name : (names : Names) (name word : List ℕ) (y : ℕ) → get (remove names name) word ≡ Some y → get names word ≡ Some y
kept_name names name word y is =
    elim (bytes_eq name word) as (λ b. cond b None (get names word) ≡ Some y → get names word ≡ Some y) [
      | true ↦ λ e. cc
      | false ↦ λ e. e
    ] (sym (get_remove names name word) ∙ is)

-- a tree whose nodes are kept after the name was removed has lost the name
pub loses : (old new : Tree) (now d : ℕ) (name : List ℕ) → Stays (set_at old.nodes d (without now name (old.nodes d))) new.nodes
    → ((x : ℕ) (others : Names) (word : List ℕ) (y : ℕ) → search new user x ≡ Ok others → get others word ≡ Some y → new.nodes y ≢ None)
    → LosesName old new user d name
loses old new now d name stays leads = record {
  searched = λ x names is e. elim (cases_eq x d) [
    | inl here ↦ (remove names name, (stays x is).1 ∙ (ap searched (at_d x here) ∙ without_name now name (old.nodes x) names e))
    | inr other ↦ (names, (stays x is).1 ∙ (ap searched (beside x other) ∙ e))
  ];
  kept = λ x names others word y is e f found. elim (cases_eq x d) [
    | inl here ↦
        let same : Ok (remove names name) ≡ Ok others = sym ((stays x is).1 ∙ (ap searched (at_d x here) ∙ without_name now name (old.nodes x) names e)) ∙ f in
        let held : remove names name ≡ others = cc in
        kept_name names name word y (ap (λ ns. get ns word) held ∙ found)
    | inr other ↦
        let same : Ok names ≡ Ok others = sym ((stays x is).1 ∙ (ap searched (beside x other) ∙ e)) ∙ f in
        let held : names ≡ others = cc in
        ap (λ ns. get ns word) held ∙ found
  ];
  lost = λ others is f.
      let was = with_name now name (old.nodes d) others (sym ((stays d is).1 ∙ ap searched (at_d d refl)) ∙ f) in
      ap (λ ns. get ns name) was.1 ∙ lost_name was.0 name;
  leads = leads;
}
  where
    at_d : (x : ℕ) → x ≡ d → set_at old.nodes d (without now name (old.nodes d)) x ≡ without now name (old.nodes x)
    at_d x here =
        ap (set_at old.nodes d (without now name (old.nodes d))) here
        ∙ (set_here old.nodes d (without now name (old.nodes d)) ∙ ap (λ j. without now name (old.nodes j)) (sym here))

    beside : (x : ℕ) → x ≢ d → set_at old.nodes d (without now name (old.nodes d)) x ≡ old.nodes x
    beside x other = set_beside old.nodes d (without now name (old.nodes d)) x other

-- the nodes after a removal are the old nodes with this name removed from its directory
stays_without : (state : State) (now d : ℕ) (name : List ℕ) → Stays (set_at state.tree.nodes d (without now name (state.tree.nodes d))) (remove_entry now d name state).tree.nodes
stays_without state now d name x is = (is, refl)

pub stays_unlink : (state : State) (now moment d : ℕ) (name : List ℕ)
    → Stays (set_at state.tree.nodes d (without now name (state.tree.nodes d))) (at_time moment (after_unlink state now d name)).tree.nodes
stays_unlink state now moment d name =
    stays_released (remove_entry now d name state) now (number_of_name state.tree d name)

pub stays_rmdir : (state : State) (now moment d : ℕ) (name : List ℕ)
    → Stays (set_at state.tree.nodes d (without now name (state.tree.nodes d))) (at_time moment (after_rmdir state now d name)).tree.nodes
stays_rmdir state now moment d name =
    let first = remove_entry now d name state in
    stays_then first.tree.nodes (drop_link now d first).tree.nodes (after_rmdir state now d name).tree.nodes
    (stays_unlinked first.tree.nodes now d) (stays_removed (drop_link now d first).tree.nodes (number_of_name state.tree d name))
