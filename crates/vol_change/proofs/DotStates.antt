-- The state of a new directory as it gets `.` and `..`.
use Rattle.std.proofs.Common.{◌≡◌, ◌≢◌, ◌∙◌, sym, ap, refl, ℕ, ◌+◌, ◌*◌, max, List, [], ◌∷◌, Bool, true, false, Some}
use Rattle.std.specs.Prelude.{◌||◌}
use Rattle.vol_layout.specs.declared.edition.Edition.{Edition}
use Rattle.vol_layout.specs.declared.edition.Edition.TheVariants.{V6, V7}
use Rattle.vol_layout.specs.declared.block_map.BlockMap.TheVariants.{Small, Deep}
use Rattle.vol_file.specs.Shape.{is_on_ways}
use Rattle.vol_dir.specs.Names.{Names, dot, dot_dot, insert}
use Rattle.vol_dir.specs.Search.{new_slot}
use Rattle.vol_dir.specs.Tree.{Directory, Node, Shape, State, no_shape}
use Rattle.vol_dir.specs.declared.cred.Cred.{Cred}
use Rattle.vol_change.specs.Contents.{put_entry}
use Rattle.vol_change.specs.Edits.{add_entry, change_names, new_node, new_directory}
use Rattle.vol_change.specs.Shapes.{new_directory_shape, shape_with_entry}
use Rattle.vol_change.specs.Dots.{HoldsNames}
use Rattle.vol_change.proofs.NodeEdits.{edit, set_here, with_entry, entry_here, entry_over, entry_apart}

-- a test repeated is the test
twice : (t : Bool) → ((false || t) || t) ≡ (false || t)
twice true = refl
twice false = refl

-- storing block 0 twice is storing it once
pub dots_shape : (edition : Edition) → shape_with_entry edition (shape_with_entry edition no_shape dot) dot_dot ≡ new_directory_shape edition
dots_shape V6 = λ k. record {
  names = λ p. twice (is_on_ways Small (0 ∷ []) p) k;
  large = false;
  slots = Some dot ∷ Some dot_dot ∷ [];
}
dots_shape V7 = λ k. record {
  names = λ p. twice (is_on_ways Deep (0 ∷ []) p) k;
  large = false;
  slots = Some dot ∷ Some dot_dot ∷ [];
}

-- the node of a new directory without entries
abbrev pub bare_directory : Edition → Cred → ℕ → ℕ → Node
bare_directory edition cred now perm = new_node edition cred now perm (Directory []) 2 0

-- adding `.` and `..` to the new node gives the node of a new directory
dots_put : (state : State) (cred : Cred) (now perm made d : ℕ)
    → put_entry made dot_dot d (put_entry made dot made (edit made (Some (bare_directory state.tree.geometry.edition cred now perm)) no_shape state))
    ≡ edit made (Some (new_node state.tree.geometry.edition cred now perm (new_directory made d) 2 32)) (new_directory_shape state.tree.geometry.edition) state
dots_put state cred now perm made d =
    let edition = state.tree.geometry.edition in
    let node = bare_directory edition cred now perm in
    let first = with_entry dot made no_shape node in
    let shape = shape_with_entry edition no_shape dot in
    ap (put_entry made dot_dot d) (entry_over state made made dot node no_shape)
    ∙ (entry_over state made d dot_dot first shape
    ∙ ap (λ (x : Shape). edit made (Some (with_entry dot_dot d shape first)) x state) (dots_shape edition))

-- the entry in the parent may be added before or after `.` and `..`
pub dots_made : (state : State) (cred : Cred) (now perm made d : ℕ) (name : List ℕ) → made ≢ d
    → put_entry made dot_dot d (put_entry made dot made
    (add_entry now d name made (edit made (Some (bare_directory state.tree.geometry.edition cred now perm)) no_shape state)))
    ≡ add_entry now d name made
    (edit made (Some (new_node state.tree.geometry.edition cred now perm (new_directory made d) 2 32)) (new_directory_shape state.tree.geometry.edition) state)
dots_made state cred now perm made d name apart =
    let edition = state.tree.geometry.edition in
    let named = add_entry now d name made state in
    ap (λ (x : State). put_entry made dot_dot d (put_entry made dot made x))
    (entry_apart state now d made made name (Some (bare_directory edition cred now perm)) no_shape apart)
    ∙ (dots_put named cred now perm made d
    ∙ sym (entry_apart state now d made made name (Some (new_node edition cred now perm (new_directory made d) 2 32)) (new_directory_shape edition) apart))

-- a new directory is empty, even after its parent has an entry for it
pub bare_empty : (state : State) (cred : Cred) (edition : Edition) (now perm made d : ℕ) (name : List ℕ) → made ≢ d
    → HoldsNames (add_entry now d name made (edit made (Some (bare_directory edition cred now perm)) no_shape state)) made [] 0 no_shape
bare_empty state cred edition now perm made d name apart =
    let node = bare_directory edition cred now perm in
    let same = entry_apart state now d made made name (Some node) no_shape apart in
    let named = add_entry now d name made state in
    record {
      node = node;
      is = ap (λ (x : State). x.tree.nodes made) same ∙ set_here named.tree.nodes made (Some node);
      content = refl;
      size = refl;
      shape = ap (λ (x : State). x.shapes made) same ∙ set_here named.shapes made no_shape;
    }

-- after another entry is added, the directory has this entry, and its size and shape are the new ones
pub entry_held : (state : State) (i k size : ℕ) (name : List ℕ) (names : Names) (shape : Shape) → HoldsNames state i names size shape
    → HoldsNames (put_entry i name k state) i (insert names name k) (max size (16 * new_slot shape.slots + 16))
    (shape_with_entry state.tree.geometry.edition shape name)
entry_held state i k size name names shape holds = record {
  node = with_entry name k (state.shapes i) holds.node;
  is = entry_here state i k name holds.node holds.is;
  content = ap (change_names (λ names. insert names name k)) holds.content;
  size = ap (λ n. max n (16 * new_slot (state.shapes i).slots + 16)) holds.size
      ∙ ap (λ (x : Shape). max size (16 * new_slot x.slots + 16)) holds.shape;
  shape = set_here state.shapes i (shape_with_entry state.tree.geometry.edition (state.shapes i) name)
      ∙ ap (λ (x : Shape). shape_with_entry state.tree.geometry.edition x name) holds.shape;
}
