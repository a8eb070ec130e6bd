-- States with the same time, nodes and shapes are equal, so a change of one node is an edit of the state.
use Rattle.std.proofs.Common.{◌≡◌, ◌≢◌, ◌∙◌, sym, ap, refl, ℕ, ◌≤◌, true, if◌then◌else◌, List, Option, None, inl, inr, eq-eqb}
use Rattle.std.proofs.lemmas.Bool.{cases_Bool, cases_eq, ne_eqb, and_parts, and_from, leb-true, le-leb}
use Rattle.pdp_words.specs.Words.{long}
use Rattle.vol_layout.specs.Super.{time_place}
use Rattle.vol_layout.specs.declared.geometry.Geometry.{Geometry}
use Rattle.vol_file.specs.Rules.{kind_at}
use Rattle.vol_dir.proofs.WalkLaws.{node_inside}
use Rattle.vol_dir.specs.Tree.{Node, Shape, State, state, tree, shapes, shape_of, node_of, no_shape, is_number}
use Rattle.vol_change.specs.Edits.{set_at, put_node, put_shape, at_time}

-- the shape of i-node i
abbrev pub shape_at : Geometry → List ℕ → ℕ → Shape
shape_at geometry image i = shape_of geometry image i (kind_at geometry image i)

-- an i-number from 1 to the last is an i-number of the volume
pub number_is : (geometry : Geometry) (i : ℕ) → 1 ≤ i → i ≤ geometry.last_inode → is_number geometry i ≡ true
number_is geometry i first last = and_from _ _ (le-leb 1 i first) (le-leb i geometry.last_inode last)

-- the state's shape of an i-number of the volume is `shape_at`
pub shape_here : (geometry : Geometry) (image : List ℕ) (i : ℕ) → 1 ≤ i → i ≤ geometry.last_inode
    → shapes geometry image i ≡ shape_at geometry image i
unfolding shapes
shape_here geometry image i first last = ap (λ t. if t then shape_at geometry image i else no_shape) (number_is geometry i first last)

-- an image reads as a state if the time, the nodes and the shapes agree
state_is : (geometry : Geometry) (image : List ℕ) (state_then : State) → geometry ≡ state_then.tree.geometry
    → long image (time_place geometry.edition) ≡ state_then.tree.time
    → ((j : ℕ) → (tree geometry image).nodes j ≡ state_then.tree.nodes j) → ((j : ℕ) → shapes geometry image j ≡ state_then.shapes j)
    → state geometry image ≡ state_then
unfolding tree
state_is geometry image state_then sizes time nodes shape =
    λ k. record {
      tree = record { geometry = sizes k; time = time k; nodes = λ j. nodes j k };
      shapes = λ j. shape j k;
    }

-- node i and its shape are replaced, and no other node or shape changes
pub record ChangesNode (geometry : Geometry) (old new : List ℕ) (i : ℕ) (node : Option Node) (shape : Shape) : Type 0 where
  pub first : 1 ≤ i
  pub last : i ≤ geometry.last_inode
  pub time : long new (time_place geometry.edition) ≡ long old (time_place geometry.edition)
  pub others : (j : ℕ) → 1 ≤ j → j ≤ geometry.last_inode → j ≢ i
      → (node_of geometry new j ≡ node_of geometry old j) × (shape_at geometry new j ≡ shape_at geometry old j)
  pub here : node_of geometry new i ≡ node
  pub places : shape_at geometry new i ≡ shape

-- after node i is replaced, the tree has the new node at i and the old nodes elsewhere
nodes_are : (geometry : Geometry) (old new : List ℕ) (i j : ℕ) (node : Option Node) (shape : Shape) → ChangesNode geometry old new i node shape
    → (tree geometry new).nodes j ≡ set_at (tree geometry old).nodes i node j
unfolding tree
nodes_are geometry old new i j put shape changes = elim (cases_eq j i) [
  | inl e ↦
      ap (tree geometry new).nodes e ∙ (node_inside geometry new i changes.first changes.last ∙ (changes.here
      ∙ sym (ap (λ t. if t then put else (tree geometry old).nodes j) (eq-eqb j i e))))
  | inr other ↦
      elim (cases_Bool (is_number geometry j)) [
        | inl is ↦
            let parts = and_parts _ _ is in
            ap (λ n. if is_number geometry j then n else None) (changes.others j (leb-true 1 j parts.0) (leb-true j geometry.last_inode parts.1) other).0
        | inr out ↦
            ap (λ t. if t then node_of geometry new j else None) out ∙ sym (ap (λ t. if t then node_of geometry old j else None) out)
      ]
      ∙ sym (ap (λ t. if t then put else (tree geometry old).nodes j) (ne_eqb j i other))
]

-- after node i is replaced, the state has the new shape at i and the old shapes elsewhere
shapes_are : (geometry : Geometry) (old new : List ℕ) (i j : ℕ) (node : Option Node) (shape : Shape) → ChangesNode geometry old new i node shape
    → shapes geometry new j ≡ set_at (shapes geometry old) i shape j
unfolding shapes
shapes_are geometry old new i j _ shape changes = elim (cases_eq j i) [
  | inl e ↦
      ap (shapes geometry new) e ∙ (shape_here geometry new i changes.first changes.last ∙ (changes.places
      ∙ sym (ap (λ t. if t then shape else shapes geometry old j) (eq-eqb j i e))))
  | inr other ↦
      elim (cases_Bool (is_number geometry j)) [
        | inl is ↦
            let parts = and_parts _ _ is in
            ap (λ n. if is_number geometry j then n else no_shape) (changes.others j (leb-true 1 j parts.0) (leb-true j geometry.last_inode parts.1) other).1
        | inr out ↦
            ap (λ t. if t then shape_at geometry new j else no_shape) out ∙ sym (ap (λ t. if t then shape_at geometry old j else no_shape) out)
      ]
      ∙ sym (ap (λ t. if t then shape else shapes geometry old j) (ne_eqb j i other))
]

-- replacing node i and its shape edits the state in the same way
pub makes_both : (geometry : Geometry) (old new : List ℕ) (i : ℕ) (node : Option Node) (shape : Shape) → ChangesNode geometry old new i node shape
    → state geometry new ≡ put_shape i shape (put_node i node (state geometry old))
unfolding tree
makes_both geometry old new i node shape changes =
    state_is geometry new (put_shape i shape (put_node i node (state geometry old))) refl changes.time
    (λ j. nodes_are geometry old new i j node shape changes) (λ j. shapes_are geometry old new i j node shape changes)

-- replacing node i without changing its shape edits the state in the same way
pub makes_node : (geometry : Geometry) (old new : List ℕ) (i : ℕ) (node : Option Node)
    → ChangesNode geometry old new i node (shape_at geometry old i) → state geometry new ≡ put_node i node (state geometry old)
unfolding tree
makes_node geometry old new i node changes =
    state_is geometry new (put_node i node (state geometry old)) refl changes.time
    (λ j. nodes_are geometry old new i j node (shape_at geometry old i) changes)
    (λ j. shapes_are geometry old new i j node (shape_at geometry old i) changes
    ∙ elim (cases_eq j i) [
      | inl e ↦
          ap (λ t. if t then shape_at geometry old i else shapes geometry old j) (eq-eqb j i e)
          ∙ (sym (shape_here geometry old i changes.first changes.last) ∙ sym (ap (shapes geometry old) e))
      | inr other ↦ ap (λ t. if t then shape_at geometry old i else shapes geometry old j) (ne_eqb j i other)
    ])

-- if no node or shape changes, only the time of the state changes
pub makes_time : (geometry : Geometry) (old new : List ℕ) (now : ℕ) → long new (time_place geometry.edition) ≡ now
    → ((j : ℕ) → 1 ≤ j → j ≤ geometry.last_inode
    → (node_of geometry new j ≡ node_of geometry old j) × (shape_at geometry new j ≡ shape_at geometry old j))
    → state geometry new ≡ at_time now (state geometry old)
unfolding tree shapes
makes_time geometry old new now time same =
    state_is geometry new (at_time now (state geometry old)) refl time
    (λ j. elim (cases_Bool (is_number geometry j)) [
      | inl is ↦
          let parts = and_parts _ _ is in
          ap (λ n. if is_number geometry j then n else None) (same j (leb-true 1 j parts.0) (leb-true j geometry.last_inode parts.1)).0
      | inr out ↦
          ap (λ t. if t then node_of geometry new j else None) out ∙ sym (ap (λ t. if t then node_of geometry old j else None) out)
    ])
    (λ j. elim (cases_Bool (is_number geometry j)) [
      | inl is ↦
          let parts = and_parts _ _ is in
          ap (λ n. if is_number geometry j then n else no_shape) (same j (leb-true 1 j parts.0) (leb-true j geometry.last_inode parts.1)).1
      | inr out ↦
          ap (λ t. if t then shape_at geometry new j else no_shape) out ∙ sym (ap (λ t. if t then shape_at geometry old j else no_shape) out)
    ])
