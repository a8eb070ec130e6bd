-- States in which a node and its shape are replaced: their parts, and changes of two nodes.
use Rattle.std.proofs.Common.{◌≡◌, ◌≢◌, ◌∙◌, sym, ap, refl, ℕ, ◌*◌, ◌+◌, ◌==◌, if◌then◌else◌, max, List, eq-eqb, inl, inr, Option, Some}
use Rattle.std.specs.Option.{option_map, unwrap_or}
use Rattle.std.proofs.lemmas.Bool.{cases_eq}
use Rattle.vol_dir.specs.Names.{insert}
use Rattle.vol_dir.specs.Search.{new_slot}
use Rattle.vol_dir.specs.Tree.{Node, Shape, State}
use Rattle.vol_change.specs.Contents.{put_entry}
use Rattle.vol_change.specs.Edits.{set_at, put_node, put_shape, change_names, modified, add_entry}
use Rattle.vol_change.specs.Nodes.{no_node}
use Rattle.vol_change.specs.Shapes.{shape_with_entry}
use Rattle.vol_change.proofs.SideStates.{set_beside}

-- the state with node i and its shape replaced
abbrev pub edit : ℕ → Option Node → Shape → State → State
edit i node shape state = put_shape i shape (put_node i node state)

-- the value at the number where a value is set is this value
pub set_here : {X : Type 0} (values : ℕ → X) (i : ℕ) (value : X) → set_at values i value i ≡ value
set_here values i value = ap (λ t. if t then value else values i) (eq-eqb i i refl)

-- if a value is set twice at the same number, the second value counts
set_over : {X : Type 0} (values : ℕ → X) (i j : ℕ) (first second : X)
    → set_at (set_at values i first) i second j ≡ set_at values i second j
set_over values i j first second = elim (cases_eq j i) [
  | inl here ↦
      ap (set_at (set_at values i first) i second) here
      ∙ (set_here (set_at values i first) i second ∙ (sym (set_here values i second) ∙ ap (set_at values i second) (sym here)))
  | inr other ↦
      set_beside (set_at values i first) i second j other ∙ (set_beside values i first j other ∙ sym (set_beside values i second j other))
]

-- values set at two different numbers may be set in either order
set_swap : {X : Type 0} (values : ℕ → X) (i j k : ℕ) (at_i at_j : X) → i ≢ j
    → set_at (set_at values j at_j) i at_i k ≡ set_at (set_at values i at_i) j at_j k
set_swap values i j k at_i at_j apart = elim (cases_eq k i) [
  | inl here ↦
      let other : k ≢ j = λ e. apart (sym here ∙ e) in
      ap (set_at (set_at values j at_j) i at_i) here
      ∙ (set_here (set_at values j at_j) i at_i
      ∙ (sym (set_here values i at_i) ∙ (ap (set_at values i at_i) (sym here) ∙ sym (set_beside (set_at values i at_i) j at_j k other))))
  | inr away ↦
      set_beside (set_at values j at_j) i at_i k away
      ∙ ap (λ value. if k == j then at_j else value) (sym (set_beside values i at_i k away))
]

-- if a node is replaced twice, only the second replacement counts
edit_over : (state : State) (i : ℕ) (first second : Option Node) (was is : Shape)
    → edit i second is (edit i first was state) ≡ edit i second is state
edit_over state i first second was is = λ k. record {
  tree = record {
    geometry = state.tree.geometry;
    time = state.tree.time;
    nodes = λ j. set_over state.tree.nodes i j first second k;
  };
  shapes = λ j. set_over state.shapes i j was is k;
}

-- replacements of two different nodes may be made in either order
edit_swap : (state : State) (i j : ℕ) (at_i at_j : Option Node) (shape_i shape_j : Shape) → i ≢ j
    → edit i at_i shape_i (edit j at_j shape_j state) ≡ edit j at_j shape_j (edit i at_i shape_i state)
edit_swap state i j at_i at_j shape_i shape_j apart = λ k. record {
  tree = record {
    geometry = state.tree.geometry;
    time = state.tree.time;
    nodes = λ n. set_swap state.tree.nodes i j n at_i at_j apart k;
  };
  shapes = λ n. set_swap state.shapes i j n shape_i shape_j apart k;
}

-- the size of a directory with another entry
abbrev grown : Option Node → Shape → ℕ
grown node shape = max (unwrap_or node no_node).size (16 * new_slot shape.slots + 16)

-- a directory with another entry
abbrev pub with_entry : List ℕ → ℕ → Shape → Node → Node
with_entry name i shape node = record node {
  content = change_names (λ names. insert names name i) node.content;
  size = max node.size (16 * new_slot shape.slots + 16);
}

-- a directory with another entry, and its times set
abbrev entered : ℕ → List ℕ → ℕ → Option Node → Shape → Option Node
entered now name i node shape =
    option_map (λ (x : Node). record (modified now x) { content = change_names (λ names. insert names name i) x.content; size = grown node shape }) node

-- adding an entry to directory d changes its node as `with_entry` does
pub entry_here : (state : State) (d i : ℕ) (name : List ℕ) (node : Node) → state.tree.nodes d ≡ Some node
    → (put_entry d name i state).tree.nodes d ≡ Some (with_entry name i (state.shapes d) node)
entry_here state d i name node is =
    set_here state.tree.nodes d _
    ∙ ap (λ (x : Option Node). option_map (λ (y : Node). record y {
      content = change_names (λ names. insert names name i) y.content;
      size = grown x (state.shapes d);
    }) x) is

-- adding an entry to a replaced node is replacing it by the node with the entry
pub entry_over : (state : State) (d i : ℕ) (name : List ℕ) (node : Node) (shape : Shape)
    → put_entry d name i (edit d (Some node) shape state)
    ≡ edit d (Some (with_entry name i shape node)) (shape_with_entry state.tree.geometry.edition shape name) state
entry_over state d i name node shape =
    let put = edit d (Some node) shape state in
    let edition = state.tree.geometry.edition in
    ap (λ (x : Option Node). edit d (option_map (λ (y : Node). record y {
      content = change_names (λ names. insert names name i) y.content;
      size = grown x (put.shapes d);
    }) x) (shape_with_entry edition (put.shapes d) name) put)
    (set_here state.tree.nodes d (Some node))
    ∙ (ap (λ (x : Shape). edit d (Some (with_entry name i x node)) (shape_with_entry edition x name) put) (set_here state.shapes d shape)
    ∙ edit_over state d (Some node) (Some (with_entry name i shape node)) shape (shape_with_entry edition shape name))

-- adding an entry to d and replacing another node may be done in either order
pub entry_apart : (state : State) (now d i made : ℕ) (name : List ℕ) (node : Option Node) (shape : Shape) → made ≢ d
    → add_entry now d name i (edit made node shape state) ≡ edit made node shape (add_entry now d name i state)
entry_apart state now d i made name node shape apart =
    let put = edit made node shape state in
    let edition = state.tree.geometry.edition in
    let away : d ≢ made = λ e. apart (sym e) in
    ap (λ (x : Option Node). edit d (entered now name i x (put.shapes d)) (shape_with_entry edition (put.shapes d) name) put)
    (set_beside state.tree.nodes made node d away)
    ∙ (ap (λ (x : Shape). edit d (entered now name i (state.tree.nodes d) x) (shape_with_entry edition x name) put)
    (set_beside state.shapes made shape d away)
    ∙ sym (edit_swap state made d node (entered now name i (state.tree.nodes d) (state.shapes d)) shape
    (shape_with_entry edition (state.shapes d) name) apart))
