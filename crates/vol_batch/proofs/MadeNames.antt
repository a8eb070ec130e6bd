-- Names that are made in a tree: old names are still found, and the walk to a new name leads to its node.
use Rattle.std.proofs.Common.{◌≡◌, ◌≢◌, ◌∙◌, ◌⊎◌, sym, ap, subst, refl, ℕ, ◌+◌, Bool, true, false, cond, List, [], ◌∷◌, Option, None, Some, Ok, Err, inl, inr}
use Rattle.std.specs.Prelude.{Result}
use Rattle.std.specs.Cmp.Lexicographic.{slice_cmp}
use Rattle.std.specs.FinMap.Entries.{find-put}
use Rattle.std.specs.Ordering.{nat_cmp}
use Rattle.std.specs.Option.{is_some, ok_or, option_map, unwrap_or}
use Rattle.std.specs.Str.{bytes_eq}
use Rattle.std.proofs.lemmas.Bool.{cases_eq, true≢false}
use Rattle.std.proofs.lemmas.Cmp.{nat_list_cmp_total}
use Rattle.std.proofs.lemmas.Map.Text.{is_eq-slice_cmp}
use Rattle.vol_file.proofs.PlaceLists.{bytes_same, same_bytes}
use Rattle.vol_layout.specs.Edition.{constants}
use Rattle.vol_layout.specs.declared.edition.Edition.{Edition}
use Rattle.vol_dir.specs.Access.{user}
use Rattle.vol_dir.specs.Names.{Names, get, insert, is_dots}
use Rattle.vol_dir.specs.Tree.{Content, Body, Directory, Device, Node, Tree}
use Rattle.pdp_words.specs.Steps.{and_then}
use Rattle.vol_dir.specs.Walk.{root, components, map_of, is_directory, find_in, walk_from, walk}
use Rattle.vol_dir.proofs.PathJoins.{walk_from-append}
use Rattle.vol_dir.specs.declared.refusal.Refusal.{Refusal}
use Rattle.vol_dir.specs.declared.refusal.Refusal.TheVariants as refusals
use Rattle.vol_change.specs.Edits.{set_at, change_names, modified, stamped}
use Rattle.vol_change.specs.Nodes.{no_node}
use Rattle.vol_change.proofs.SideStates.{set_beside}
use Rattle.vol_change.proofs.NodeEdits.{set_here}
use Rattle.vol_volume.proofs.TreeWalks.{Reaches, named, searched}

-- a path leads to a node
pub record LeadsTo (tree : Tree) (path : List ℕ) (node : Node) : Type 0 where
  pub number : ℕ
  pub walked : walk tree user path ≡ Ok number
  pub stands : tree.nodes number ≡ Some node

-- the i-number for a name in the map that a search returned
abbrev pub found_in : Result Names Refusal → List ℕ → Result ℕ Refusal
found_in names name = and_then names (λ (ns : Names). ok_or (get ns name) refusals.NoEntry)

-- the i-number that user 0 finds for a name in a node, if there is one
abbrev pub found : Option Node → List ℕ → Result ℕ Refusal
found node name = found_in (searched node) name

-- the node `new` has all names of `old`, for the same i-numbers
abbrev pub HasNamesOf : Option Node → Option Node → Type 0
HasNamesOf old new = (name : List ℕ) (i : ℕ) → found old name ≡ Ok i → found new name ≡ Ok i

-- all nodes keep their names
abbrev pub KeepsNames : (ℕ → Option Node) → (ℕ → Option Node) → Type 0
KeepsNames old new = (x : ℕ) → HasNamesOf (old x) (new x)

-- the map of a node that may be searched
pub searched_names : (node : Option Node) (names : Names) → searched node ≡ Ok names → unwrap_or (map_of (unwrap_or node no_node).content) [] ≡ names
searched_names None names is = absurd (cc)
searched_names (Some node) names is = by node.content is
  where
    by : (held : Content) → named (map_of held) ≡ Ok names → unwrap_or (map_of held) [] ≡ names
    by (Body bytes) is = absurd (cc)
    by (Directory ns) is = cc
    by (Device type addresses) is = absurd (cc)

-- if all nodes keep their names, a walk leads to the same node as before
pub walk_kept : (old new : Tree) → KeepsNames old.nodes new.nodes → (names : List (List ℕ)) (x i : ℕ) → walk_from old user x names ≡ Ok i
    → walk_from new user x names ≡ Ok i
walk_kept old new keeps [] x i is = is
walk_kept old new keeps (name ∷ names) x i is =
    elim (find_in old user x name) as (λ (r : Result ℕ Refusal). find_in old user x name ≡ r → and_then r (λ y. walk_from old user y names) ≡ Ok i
    → walk_from new user x (name ∷ names) ≡ Ok i) [
      | Ok y ↦ λ e f. ap (λ (r : Result ℕ Refusal). and_then r (λ z. walk_from new user z names)) (keeps x name y e) ∙ walk_kept old new keeps names y i f
      | Err refusal ↦ λ e f. cc
    ] refl is

pub path_kept : (old new : Tree) (path : List ℕ) (i : ℕ) → root new ≡ root old → KeepsNames old.nodes new.nodes → walk old user path ≡ Ok i
    → walk new user path ≡ Ok i
unfolding walk
path_kept old new path i same keeps is =
    ap (λ r. walk_from new user r (components path)) same ∙ walk_kept old new keeps (components path) (root old) i is

-- a node that isn't a directory has no names
pub no_names : (node new : Option Node) → is_directory (unwrap_or node no_node) ≡ false → HasNamesOf node new
no_names None new plain name i is = cc
no_names (Some node) new plain name i is = by node.content plain is
  where
    by : (held : Content) → is_some (map_of held) ≡ false → found_in (named (map_of held)) name ≡ Ok i → found new name ≡ Ok i
    by (Body bytes) plain is = cc
    by (Directory names) plain is = cc
    by (Device type addresses) plain is = cc

-- the facts about a node, except its links and the times set by reading it and by changing its i-node
abbrev pub told : Node → Content × ℕ × ℕ × ℕ × ℕ × ℕ
told node = (node.content, node.permissions, node.uid, node.gid, node.size, node.modified)

-- a node is kept: a directory is still one, and any other node keeps its facts
abbrev pub Stays : Option Node → Option Node → Type 0
Stays old new = (node : Node) → old ≡ Some node
    → (next : Node) × (new ≡ Some next) × (is_directory next ≡ is_directory node) × (is_directory node ≡ false → told next ≡ told node)

-- a node is kept with its names
abbrev pub Keeps : Option Node → Option Node → Type 0
Keeps old new = HasNamesOf old new × Stays old new

pub keeps_same : (old : Option Node) → Keeps old old
keeps_same old = (λ name i is. is, λ x is. (x, is, refl, λ plain. refl))

pub keeps_then : (old mid new : Option Node) → Keeps old mid → Keeps mid new → Keeps old new
keeps_then old mid new first second = (
  λ name i is. second.0 name i (first.0 name i is),
  λ x is.
      let one = first.1 x is in
      let two = second.1 one.0 one.1 in
      (two.0, two.1, two.2 ∙ one.2, λ plain. two.3 (one.2 ∙ plain) ∙ one.3 plain),
)

-- if there was no node, there is nothing to keep
pub keeps_none : (old new : Option Node) → old ≡ None → Keeps old new
keeps_none old new none = (
  no_names old new (ap (λ n. is_directory (unwrap_or n no_node)) none),
  λ x is. let both : None ≡ Some x = sym none ∙ is in absurd (cc),
)

-- if a reflexive relation holds between a node and its replacement, it holds for all nodes
pub set_keeps : (P : Option Node → Option Node → Type 0) → ((node : Option Node) → P node node) → (nodes : ℕ → Option Node) (i : ℕ) (node : Option Node)
    → P (nodes i) node → (x : ℕ) → P (nodes x) (set_at nodes i node x)
set_keeps P same nodes i node has x = elim (cases_eq x i) [
  | inl here ↦
      subst (λ n. P n (set_at nodes i node x)) (ap nodes (sym here))
      (subst (P (nodes i)) (sym (ap (set_at nodes i node) here ∙ set_here nodes i node)) has)
  | inr other ↦ subst (P (nodes x)) (sym (set_beside nodes i node x other)) (same (nodes x))
]

pub nodes_set : (nodes : ℕ → Option Node) (i : ℕ) (node : Option Node) → Keeps (nodes i) node → (x : ℕ) → Keeps (nodes x) (set_at nodes i node x)
nodes_set = set_keeps Keeps keeps_same

-- replacing a node by one that has its names keeps all names
pub names_set : (nodes : ℕ → Option Node) (i : ℕ) (node : Option Node) → HasNamesOf (nodes i) node → KeepsNames nodes (set_at nodes i node)
names_set = set_keeps HasNamesOf (λ node name j is. is)

-- if only a node that isn't a directory changes, a path to it still leads to it
pub leads_still : (old new : Tree) (path : List ℕ) (i : ℕ) (changed : Option Node) → root new ≡ root old → new.nodes ≡ set_at old.nodes i changed
    → is_directory (unwrap_or (old.nodes i) no_node) ≡ false → walk old user path ≡ Ok i → (walk new user path ≡ Ok i) × (new.nodes i ≡ changed)
leads_still old new path i changed same nodes plain is = (
  path_kept old new path i same
      (λ x name j e. ap (λ (ns : ℕ → Option Node). found (ns x) name) nodes ∙ names_set old.nodes i changed (no_names (old.nodes i) changed plain) x name j e) is,
  ap (λ (ns : ℕ → Option Node). ns i) nodes ∙ set_here old.nodes i changed,
)

-- the permissions, owner and group of a node
abbrev pub owner_told : Node → ℕ × ℕ × ℕ
owner_told node = (node.permissions, node.uid, node.gid)

-- a node keeps its permissions, owner and group
abbrev pub KeepsOwner : Option Node → Option Node → Type 0
KeepsOwner old new = (node : Node) → old ≡ Some node → (next : Node) × (new ≡ Some next) × (owner_told next ≡ owner_told node)

pub owner_same : (old : Option Node) → KeepsOwner old old
owner_same old x is = (x, is, refl)

pub owner_then : (old mid new : Option Node) → KeepsOwner old mid → KeepsOwner mid new → KeepsOwner old new
owner_then old mid new first second x is =
    let one = first x is in
    let two = second one.0 one.1 in
    (two.0, two.1, two.2 ∙ one.2)

pub owner_none : (old new : Option Node) → old ≡ None → KeepsOwner old new
owner_none old new none x is = let both : None ≡ Some x = sym none ∙ is in absurd (cc)

-- a change that keeps the owner of every node keeps the owner of this one
pub owner_kept : (change : Node → Node) → ((x : Node) → owner_told (change x) ≡ owner_told x) → (node : Option Node)
    → KeepsOwner node (option_map change node)
owner_kept change same None x is = (x, is, refl)
owner_kept change same (Some node) x is = let here : node ≡ x = cc in (change node, refl, same node ∙ ap owner_told here)

pub owners_set : (nodes : ℕ → Option Node) (i : ℕ) (node : Option Node) → KeepsOwner (nodes i) node
    → (x : ℕ) → KeepsOwner (nodes x) (set_at nodes i node x)
owners_set = set_keeps KeepsOwner owner_same

-- a directory with one more entry
abbrev pub entered : ℕ → ℕ → List ℕ → ℕ → Option Node → Option Node
entered now size name i node =
    option_map (λ (x : Node). record (modified now x) { content = change_names (λ names. insert names name i) x.content; size = size }) node

-- a directory with one more link
abbrev pub linked : ℕ → Option Node → Option Node
linked now node = option_map (λ (x : Node). record (stamped now x) { links = x.links + 1 }) node

pub linked_owner : (now : ℕ) (node : Option Node) → KeepsOwner node (linked now node)
linked_owner now node = owner_kept (λ x. record (stamped now x) { links = x.links + 1 }) (λ x. refl) node

pub linked_keeps : (now : ℕ) (node : Option Node) → Keeps node (linked now node)
linked_keeps now None = keeps_same None
linked_keeps now (Some node) = (λ name i is. is, λ x is. let same : node ≡ x = cc in (_, refl, ap is_directory same, λ plain. ap told same))

entered_owner : (now size i : ℕ) (name : List ℕ) (node : Option Node) → KeepsOwner node (entered now size name i node)
entered_owner now size i name node =
    owner_kept (λ x. record (modified now x) { content = change_names (λ names. insert names name i) x.content; size = size }) (λ x. refl) node

-- looking up a word in a map with one more name gives the new number for this name, and the old result for all others
pub get_insert : (names : Names) (name word : List ℕ) (i : ℕ) → get (insert names name i) word ≡ cond (bytes_eq word name) (Some i) (get names word)
get_insert names name word i =
    find-put (slice_cmp nat_cmp) nat_list_cmp_total word name i names ∙ ap (λ b. cond b (Some i) (get names word)) (is_eq-slice_cmp word name)

-- inserting a name that a map doesn't have hides no other name
insert_has : (names : Names) (name word : List ℕ) (i j : ℕ) → get names name ≡ None → ok_or (get names word) refusals.NoEntry ≡ Ok j
    → ok_or (get (insert names name i) word) refusals.NoEntry ≡ Ok j
insert_has names name word i j fresh is =
    ap (λ (o : Option ℕ). ok_or o refusals.NoEntry) (get_insert names name word i)
    ∙ elim (bytes_eq word name) as (λ b. bytes_eq word name ≡ b → ok_or (cond b (Some i) (get names word)) refusals.NoEntry ≡ Ok j) [
      | true ↦ λ same.
          let none : Err refusals.NoEntry ≡ Ok j =
          sym (ap (λ (o : Option ℕ). ok_or o refusals.NoEntry) (ap (get names) (same_bytes word name same) ∙ fresh)) ∙ is in
          absurd (cc)
      | false ↦ λ other. is
    ] refl

pub entered_has : (now size i : ℕ) (name : List ℕ) (node : Option Node) (names : Names) → searched node ≡ Ok names → get names name ≡ None
    → HasNamesOf node (entered now size name i node)
entered_has now size i name None names held fresh word j is = cc
entered_has now size i name (Some node) names held fresh word j is = by node.content held is
  where
    by : (content : Content) → named (map_of content) ≡ Ok names → found_in (named (map_of content)) word ≡ Ok j
        → found_in (named (map_of (change_names (λ ns. insert ns name i) content))) word ≡ Ok j
    by (Body bytes) held is = cc
    by (Directory ns) held is = let same : ns ≡ names = cc in insert_has ns name word i j (ap (λ (m : Names). get m name) same ∙ fresh) is
    by (Device type addresses) held is = cc

-- a node that may be searched is a directory
searched_directory : (node : Node) (names : Names) → searched (Some node) ≡ Ok names → is_directory node ≡ true
searched_directory node names held = by node.content held
  where
    by : (content : Content) → named (map_of content) ≡ Ok names → is_some (map_of content) ≡ true
    by (Body bytes) held = cc
    by (Directory ns) held = refl
    by (Device type addresses) held = cc

entered_keeps : (now size i : ℕ) (name : List ℕ) (node : Option Node) (names : Names) → searched node ≡ Ok names → get names name ≡ None
    → Keeps node (entered now size name i node)
entered_keeps now size i name node names held fresh = (entered_has now size i name node names held fresh, stays node held)
  where
    kind : (content : Content) → is_some (map_of (change_names (λ ns. insert ns name i) content)) ≡ is_some (map_of content)
    kind (Body bytes) = refl
    kind (Directory ns) = refl
    kind (Device type addresses) = refl

    stays : (node : Option Node) → searched node ≡ Ok names → Stays node (entered now size name i node)
    stays None held x is = absurd (cc)
    stays (Some node) held x is =
        let same : node ≡ x = cc in (
          _,
          refl,
          kind node.content ∙ ap is_directory same,
          λ plain. let both : true ≡ false = sym (searched_directory node names held) ∙ (ap is_directory same ∙ plain) in absurd (true≢false both),
        )

-- a name that was entered is found
pub entered_found : (now size i : ℕ) (name : List ℕ) (node : Option Node) (names : Names) → searched node ≡ Ok names
    → found (entered now size name i node) name ≡ Ok i
entered_found now size i name None names held = cc
entered_found now size i name (Some node) names held = by node.content held
  where
    by : (content : Content) → named (map_of content) ≡ Ok names → found_in (named (map_of (change_names (λ ns. insert ns name i) content))) name ≡ Ok i
    by (Body bytes) held = cc
    by (Directory ns) held =
        ap (λ (o : Option ℕ). ok_or o refusals.NoEntry)
        (get_insert ns name name i ∙ ap (λ b. cond b (Some i) (get ns name)) (bytes_same name name refl))
    by (Device type addresses) held = cc

-- the node `new` has no names that `old` doesn't have, except `.` and `..`
abbrev pub HasNoOthers : Option Node → Option Node → Type 0
HasNoOthers old new = (word : List ℕ) (j : ℕ) → found new word ≡ Ok j → is_dots word ≡ false → found old word ≡ Ok j

pub others_same : (node : Option Node) → HasNoOthers node node
others_same node word j is plain = is

pub linked_others : (now : ℕ) (node : Option Node) → HasNoOthers node (linked now node)
linked_others now None word j is plain = is
linked_others now (Some node) word j is plain = is

-- entering a name adds only this name
entered_others : (now size i : ℕ) (name : List ℕ) (node : Option Node) (word : List ℕ) (j : ℕ) → found (entered now size name i node) word ≡ Ok j
    → (found node word ≡ Ok j) ⊎ (word ≡ name)
entered_others now size i name None word j is = inl is
entered_others now size i name (Some node) word j is = by node.content is
  where
    split : (names : Names) (same : Bool) → bytes_eq word name ≡ same → ok_or (cond same (Some i) (get names word)) refusals.NoEntry ≡ Ok j
        → (ok_or (get names word) refusals.NoEntry ≡ Ok j) ⊎ (word ≡ name)
    split names true e is = inr (same_bytes word name e)
    split names false e is = inl is

    by : (content : Content) → found_in (named (map_of (change_names (λ ns. insert ns name i) content))) word ≡ Ok j
        → (found_in (named (map_of content)) word ≡ Ok j) ⊎ (word ≡ name)
    by (Body bytes) is = absurd (cc)
    by (Directory names) is =
        split names (bytes_eq word name) refl (sym (ap (λ (o : Option ℕ). ok_or o refusals.NoEntry) (get_insert names name word i)) ∙ is)
    by (Device type addresses) is = absurd (cc)

-- an entry for `i` was made in directory `d`, under a name that `d` didn't have
pub record EntersName (old new : ℕ → Option Node) (d : ℕ) (name : List ℕ) (i : ℕ) : Type 0 where
  pub kept : (x : ℕ) → Keeps (old x) (new x)
  pub owners : (x : ℕ) → KeepsOwner (old x) (new x)
  pub named : found (new d) name ≡ Ok i
  pub others : (x : ℕ) (word : List ℕ) (j : ℕ) → found (new x) word ≡ Ok j → is_dots word ≡ false
      → (found (old x) word ≡ Ok j) ⊎ ((x ≡ d) × (word ≡ name))

pub name_entered : (nodes : ℕ → Option Node) (now size d i : ℕ) (name : List ℕ) (names : Names) → searched (nodes d) ≡ Ok names → get names name ≡ None
    → EntersName nodes (set_at nodes d (entered now size name i (nodes d))) d name i
name_entered nodes now size d i name names held fresh = record {
  kept = nodes_set nodes d (entered now size name i (nodes d)) (entered_keeps now size i name (nodes d) names held fresh);
  owners = owners_set nodes d (entered now size name i (nodes d)) (entered_owner now size i name (nodes d));
  named = ap (λ n. found n name) (set_here nodes d (entered now size name i (nodes d))) ∙ entered_found now size i name (nodes d) names held;
  others = λ x word j is plain. elim (cases_eq x d) [
    | inl at ↦ elim (entered_others now size i name (nodes d) word j
        (sym (ap (λ n. found n word) (ap (set_at nodes d (entered now size name i (nodes d))) at ∙ set_here nodes d (entered now size name i (nodes d)))) ∙ is)) [
          | inl old ↦ inl (ap (λ y. found (nodes y) word) at ∙ old)
          | inr new ↦ inr (at, new)
        ]
    | inr other ↦ inl (sym (ap (λ n. found n word) (set_beside nodes d (entered now size name i (nodes d)) x other)) ∙ is)
  ];
}

-- changes before and after an entry that add no names leave it the only new one
pub enters_between : (old put mid new : ℕ → Option Node) (d : ℕ) (name : List ℕ) (i : ℕ) → ((x : ℕ) → HasNoOthers (old x) (put x)) → EntersName put mid d name i
    → ((x : ℕ) → HasNoOthers (mid x) (new x)) → (x : ℕ) (word : List ℕ) (j : ℕ) → found (new x) word ≡ Ok j → is_dots word ≡ false
    → (found (old x) word ≡ Ok j) ⊎ ((x ≡ d) × (word ≡ name))
enters_between old put mid new d name i first enters last x word j is plain = elim (enters.others x word j (last x word j is plain) plain) [
  | inl was ↦ inl (first x word j was plain)
  | inr made ↦ inr made
]

-- node `i` was made where there was none, with a name in directory `d`
pub record MakesName (old new : ℕ → Option Node) (d : ℕ) (name : List ℕ) (i : ℕ) (node : Node) : Type 0 where
  pub free : old i ≡ None
  pub apart : i ≢ d
  pub enters : EntersName old new d name i
  pub stands : new i ≡ Some node

-- making a node where there was none, and then its entry, makes a name
pub name_made : (nodes : ℕ → Option Node) (now size d i : ℕ) (name : List ℕ) (node : Node) (names : Names) → nodes i ≡ None → searched (nodes d) ≡ Ok names
    → get names name ≡ None → HasNoOthers None (Some node)
    → MakesName nodes (set_at (set_at nodes i (Some node)) d (entered now size name i (set_at nodes i (Some node) d))) d name i node
name_made nodes now size d i name node names free held fresh bare =
    let put = set_at nodes i (Some node) in
    let apart : i ≢ d = λ same.
    let none : Err refusals.NotDirectory ≡ Ok names = sym (ap searched (ap nodes (sym same) ∙ free)) ∙ held in
    absurd (cc) in
    let there : searched (put d) ≡ Ok names = ap searched (set_beside nodes i (Some node) d (λ same. apart (sym same))) ∙ held in
    let enters = name_entered put now size d i name names there fresh in
    record {
      free = free;
      apart = apart;
      enters = record {
        kept = λ x. keeps_then (nodes x) (put x) _ (nodes_set nodes i (Some node) (keeps_none (nodes i) (Some node) free) x) (enters.kept x);
        owners = λ x. owner_then (nodes x) (put x) _ (owners_set nodes i (Some node) (owner_none (nodes i) (Some node) free) x) (enters.owners x);
        named = enters.named;
        others = enters_between nodes put _ _ d name i
            (set_keeps HasNoOthers others_same nodes i (Some node) (subst (λ n. HasNoOthers n (Some node)) (sym free) bare)) enters (λ x. others_same _);
      };
      stands = set_beside put d (entered now size name i (put d)) i apart ∙ set_here nodes i (Some node);
    }

-- one more link to the directory doesn't change that
pub name_linked : (old mid : ℕ → Option Node) (now d i : ℕ) (name : List ℕ) (node : Node) → MakesName old mid d name i node
    → MakesName old (set_at mid d (linked now (mid d))) d name i node
name_linked old mid now d i name node makes =
    let links = linked_keeps now (mid d) in
    record {
      free = makes.free;
      apart = makes.apart;
      enters = record {
        kept = λ x. keeps_then (old x) (mid x) _ (makes.enters.kept x) (nodes_set mid d (linked now (mid d)) links x);
        owners = λ x. owner_then (old x) (mid x) _ (makes.enters.owners x) (owners_set mid d (linked now (mid d)) (linked_owner now (mid d)) x);
        named = ap (λ n. found n name) (set_here mid d (linked now (mid d))) ∙ links.0 name i makes.enters.named;
        others = enters_between old old mid _ d name i (λ x. others_same (old x)) makes.enters
            (set_keeps HasNoOthers others_same mid d (linked now (mid d)) (linked_others now (mid d)));
      };
      stands = set_beside mid d (linked now (mid d)) i makes.apart ∙ makes.stands;
    }

-- two trees of one edition have the same root
pub same_root : (old new : Tree) → new.geometry.edition ≡ old.geometry.edition → root new ≡ root old
same_root old new same = ap (λ (edition : Edition). (constants edition).root) same

-- the tree `new` keeps the nodes of `old`, with their names
pub record Grows (old new : Tree) : Type 0 where
  pub edition : new.geometry.edition ≡ old.geometry.edition
  pub kept : (x : ℕ) → Keeps (old.nodes x) (new.nodes x)

pub grows_same : (tree : Tree) → Grows tree tree
grows_same tree = record { edition = refl; kept = λ x. keeps_same (tree.nodes x) }

pub grows_then : (old mid new : Tree) → Grows old mid → Grows mid new → Grows old new
grows_then old mid new first second = record {
  edition = second.edition ∙ first.edition;
  kept = λ x. keeps_then (old.nodes x) (mid.nodes x) (new.nodes x) (first.kept x) (second.kept x);
}

-- all nodes keep their owners
abbrev pub KeepsOwners : Tree → Tree → Type 0
KeepsOwners old new = (x : ℕ) → KeepsOwner (old.nodes x) (new.nodes x)

-- a path still leads to the same node
pub grown_path : (old new : Tree) (path : List ℕ) (i : ℕ) → Grows old new → walk old user path ≡ Ok i → walk new user path ≡ Ok i
grown_path old new path i grows is = path_kept old new path i (same_root old new grows.edition) (λ x. (grows.kept x).0) is

-- a path that ends with a new name leads to its node
pub path_made : (old new : Tree) (path : List ℕ) (d i : ℕ) (name : List ℕ) → root new ≡ root old → Reaches old path d name
    → EntersName old.nodes new.nodes d name i → walk new user path ≡ Ok i
unfolding walk
path_made old new path d i name same reached enters =
    ap (λ r. walk_from new user r (components path)) same
    ∙ (ap (walk_from new user (root old)) reached.parts
    ∙ (walk_from-append new user (root old) reached.front (name ∷ [])
    ∙ (ap (λ (r : Result ℕ Refusal). and_then r (λ j. walk_from new user j (name ∷ [])))
    (walk_kept old new (λ x. (enters.kept x).0) reached.front (root old) d reached.walks)
    ∙ ap (λ (r : Result ℕ Refusal). and_then r (λ j. Ok j)) enters.named)))

-- the last name of a path was entered
pub record EntersAt (old new : Tree) (path : List ℕ) : Type 0 where
  pub directory : ℕ
  pub name : List ℕ
  pub number : ℕ
  pub edition : new.geometry.edition ≡ old.geometry.edition
  pub reached : Reaches old path directory name
  pub enters : EntersName old.nodes new.nodes directory name number

-- the last name of a path was entered, and its node was made
abbrev pub MakesAt : Tree → Tree → List ℕ → Node → Type 0
MakesAt old new path node = (at : EntersAt old new path) × MakesName old.nodes new.nodes at.directory at.name at.number node

-- a tree has grown by a path to a new node
pub record Gains (old new : Tree) (path : List ℕ) (node : Node) : Type 0 where
  pub leads : LeadsTo new path node
  pub free : old.nodes leads.number ≡ None
  pub grows : Grows old new
  pub owners : KeepsOwners old new

pub gains_made : (old new : Tree) (path : List ℕ) (node : Node) → MakesAt old new path node → Gains old new path node
gains_made old new path node made =
    let at = made.0 in
    let makes = made.1 in
    record {
      leads = record {
        number = at.number;
        walked = path_made old new path at.directory at.number at.name (same_root old new at.edition) at.reached makes.enters;
        stands = makes.stands;
      };
      free = makes.free;
      grows = record { edition = at.edition; kept = makes.enters.kept };
      owners = makes.enters.owners;
    }
