-- A directory that gets a name, after a change of another node.
use Rattle.std.proofs.Common.{◌≡◌, ◌≢◌, ◌∙◌, sym, ap, subst, ℕ, ◌+◌, ◌*◌, ◌%◌, ◌≤◌, max, if◌then◌else◌, List, [], Option, inl, inr, eq-eqb, arith}
use Rattle.std.specs.Option.{unwrap_or}
use Rattle.std.proofs.lemmas.Bool.{cases_eq, ne_eqb}
use Rattle.vol_layout.specs.Edition.{constants}
use Rattle.vol_layout.specs.Inode.{kind_of}
use Rattle.vol_layout.specs.declared.geometry.Geometry.{Geometry}
use Rattle.vol_layout.proofs.KindLaws.{kind_zero}
use Rattle.vol_free.specs.Numbers.{IsFreeNumber}
use Rattle.vol_file.specs.Rules.{size_of}
use Rattle.vol_dir.specs.EntryEdits.{HasNamesOnce}
use Rattle.vol_dir.specs.Entries.{IsDirectory, entry_at}
use Rattle.vol_dir.specs.Names.{get}
use Rattle.vol_dir.specs.Search.{new_slot, holds}
use Rattle.vol_dir.specs.Tree.{Node, Shape, State, no_shape, shape_of, shapes, state}
use Rattle.vol_dir.specs.Walk.{map_of}
use Rattle.vol_judge.specs.Graph.{Graph, graph_of, entry_by}
use Rattle.vol_judge.proofs.ImageGraphs.{directory_to}
use Rattle.vol_change.specs.Edits.{set_at, put_node, put_shape}
use Rattle.vol_change.specs.Nodes.{no_node}
use Rattle.vol_change.proofs.States.{shape_here}
use Rattle.vol_change.specs.Ready.{Rules1To12, TakesName, entry_need, free_in}
use Rattle.vol_change.proofs.ReadyLaws.{ready_slots, ready_once, directory_kept}

-- values with the value at i replaced are unchanged at other numbers
pub set_beside : {X : Type 0} (values : ℕ → X) (i : ℕ) (value : X) (j : ℕ) → j ≢ i → set_at values i value j ≡ values j
set_beside values i value j other = ap (λ t. if t then value else values j) (ne_eqb j i other)

-- values with the value at i replaced by itself are unchanged
set_there : {X : Type 0} (values : ℕ → X) (i : ℕ) (value : X) → values i ≡ value → (j : ℕ) → set_at values i value j ≡ values j
set_there values i value is j = elim (cases_eq j i) [
  | inl e ↦ ap (λ t. if t then value else values j) (eq-eqb j i e) ∙ (sym is ∙ ap values (sym e))
  | inr other ↦ set_beside values i value j other
]

-- a state with the shape of i replaced by itself is unchanged
pub shape_there : (state : State) (i : ℕ) (shape : Shape) → state.shapes i ≡ shape → put_shape i shape state ≡ state
shape_there state i shape is = λ k. record { tree = state.tree; shapes = λ j. set_there state.shapes i shape is j k }

-- a free i-number has an empty shape
pub free_shape : (geometry : Geometry) (image : List ℕ) (i : ℕ) → IsFreeNumber geometry image i → shapes geometry image i ≡ no_shape
free_shape geometry image i free =
    shape_here geometry image i (omega (arith, free.above)) free.within
    ∙ ap (shape_of geometry image i) (ap (kind_of geometry.edition) free.mode ∙ kind_zero geometry.edition)

-- putting a new node without a shape into the state changes only the node
pub made_state : (geometry : Geometry) (image : List ℕ) (i : ℕ) (node : Option Node) → IsFreeNumber geometry image i
    → put_shape i no_shape (put_node i node (state geometry image)) ≡ put_node i node (state geometry image)
made_state geometry image i node free = shape_there (put_node i node (state geometry image)) i no_shape (free_shape geometry image i free)

-- after another node is replaced, directory d may still get the name
pub takes_beside : (state : State) (d i : ℕ) (node : Option Node) (name : List ℕ) → d ≢ i → TakesName state d name
    → TakesName (put_node i node state) d name
takes_beside state d i node name other takes =
    let same = set_beside state.tree.nodes i node d other in
    record {
      fresh = ap (λ n. get (unwrap_or (map_of (unwrap_or n no_node).content) []) name) same ∙ takes.fresh;
      greatest = subst (λ n. max (unwrap_or n no_node).size (16 * new_slot (state.shapes d).slots + 16) ≤ (constants state.tree.geometry.edition).greatest)
          (sym same) takes.greatest;
    }

-- directory d has the same kind, size and entries in both graphs
pub record KeepsDirectory (old new : Graph) (d : ℕ) : Type 0 where
  pub kind : new.kind d ≡ old.kind d
  pub size : new.size d ≡ old.size d
  pub entry : (s : ℕ) → new.entry d s ≡ old.entry d s

-- the entries of directory d don't change
entries_kept : (geometry : Geometry) (old new : List ℕ) (d : ℕ) → IsDirectory geometry old d
    → KeepsDirectory (graph_of geometry old) (graph_of geometry new) d → (s : ℕ) → entry_at geometry new d s ≡ entry_at geometry old d s
entries_kept geometry old new d is kept s =
    sym (ap (λ k. entry_by k geometry new d s) (kept.kind ∙ directory_to geometry old d is))
    ∙ (kept.entry s ∙ ap (λ k. entry_by k geometry old d s) (directory_to geometry old d is))

-- directory d still has no name twice
once_kept : (geometry : Geometry) (old new : List ℕ) (d : ℕ) → IsDirectory geometry old d
    → KeepsDirectory (graph_of geometry old) (graph_of geometry new) d → HasNamesOnce geometry old d → HasNamesOnce geometry new d
once_kept geometry old new d is kept has =
    let same = entries_kept geometry old new d is kept in
    record {
      once = λ name s t first second. has.once name s t (ap (holds name) (sym (same s)) ∙ first) (ap (holds name) (sym (same t)) ∙ second);
    }

-- the conditions for adding an entry with this name to directory d
pub record TakesEntry (geometry : Geometry) (image : List ℕ) (d : ℕ) (name : List ℕ) : Type 0 where
  pub directory : IsDirectory geometry image d
  pub slots : size_of geometry image d % 16 ≡ 0
  pub once : HasNamesOnce geometry image d
  pub takes : TakesName (state geometry image) d name
  pub room : entry_need (state geometry image) d ≤ free_in (state geometry image)

-- the conditions of a call imply the conditions for adding an entry
pub takes_ready : (geometry : Geometry) (image : List ℕ) (d : ℕ) (name : List ℕ) → Rules1To12 geometry image → IsDirectory geometry image d
    → TakesName (state geometry image) d name → entry_need (state geometry image) d ≤ free_in (state geometry image)
    → TakesEntry geometry image d name
takes_ready geometry image d name ready is takes room = record {
  directory = is;
  slots = ready_slots geometry image d ready is;
  once = ready_once geometry image d ready is;
  takes = takes;
  room = room;
}

-- the conditions for adding an entry still hold after another node is replaced
pub takes_kept : (geometry : Geometry) (old new : List ℕ) (d i : ℕ) (node : Option Node) (name : List ℕ) → d ≢ i
    → KeepsDirectory (graph_of geometry old) (graph_of geometry new) d → state geometry new ≡ put_node i node (state geometry old)
    → TakesEntry geometry old d name → TakesEntry geometry new d name
takes_kept geometry old new d i node name other kept makes takes = record {
  directory = directory_kept geometry old new d kept.kind takes.directory;
  slots = ap (λ n. n % 16) kept.size ∙ takes.slots;
  once = once_kept geometry old new d takes.directory kept takes.once;
  takes = subst (λ s. TakesName s d name) (sym makes) (takes_beside (state geometry old) d i node name other takes.takes);
  room = subst (λ s. entry_need s d ≤ free_in s) (sym makes) takes.room;
}
