-- A change of a node followed by setting its times is the edit that the effects of calls are defined with.
use Rattle.std.proofs.Common.{◌≡◌, ◌∙◌, sym, ap, refl, ℕ, ◌≤◌, ◌==◌, if◌then◌else◌, List, [], ◌∷◌, length, eq-eqb, arith, inl, inr, Option, None, Some}
use Rattle.std.specs.Option.{option_map}
use Rattle.std.proofs.lemmas.Bool.{cases_Bool}
use Rattle.vol_dir.specs.Tree.{Node, Shape, State}
use Rattle.vol_change.specs.Edits.{set_at, change_node, put_shape, modified, after_write, after_truncate}
use Rattle.vol_change.specs.Contents.{write_body, cut_body}

-- two changes of an optional node are one composed change
map_twice : (f g : Node → Node) (node : Option Node) → option_map f (option_map g node) ≡ option_map (λ x. f (g x)) node
map_twice f g None = refl
map_twice f g (Some node) = refl

-- changing one node twice is one composed change
set_twice : (nodes : ℕ → Option Node) (i : ℕ) (f g : Node → Node) (j : ℕ)
    → set_at (set_at nodes i (option_map g (nodes i))) i (option_map f (set_at nodes i (option_map g (nodes i)) i)) j
    ≡ set_at nodes i (option_map (λ x. f (g x)) (nodes i)) j
set_twice nodes i f g j =
    let once : set_at nodes i (option_map g (nodes i)) i ≡ option_map g (nodes i) =
    ap (λ t. if t then option_map g (nodes i) else nodes i) (eq-eqb i i refl) in
    let twice : option_map f (set_at nodes i (option_map g (nodes i)) i) ≡ option_map (λ x. f (g x)) (nodes i) =
    ap (option_map f) once ∙ map_twice f g (nodes i) in
    ap (λ node. if j == i then node else (if j == i then option_map g (nodes i) else nodes j)) twice
    ∙ (elim (cases_Bool (j == i)) [
      | inl same ↦
          ap (λ t. if t then option_map (λ x. f (g x)) (nodes i) else (if t then option_map g (nodes i) else nodes j)) same
          ∙ sym (ap (λ t. if t then option_map (λ x. f (g x)) (nodes i) else nodes j) same)
      | inr other ↦
          ap (λ t. if t then option_map (λ x. f (g x)) (nodes i) else (if t then option_map g (nodes i) else nodes j)) other
          ∙ sym (ap (λ t. if t then option_map (λ x. f (g x)) (nodes i) else nodes j) other)
    ])

-- changing one node of a state twice is one composed change
pub change_twice : (state : State) (i : ℕ) (shape : Shape) (f g : Node → Node)
    → change_node i f (put_shape i shape (change_node i g state)) ≡ put_shape i shape (change_node i (λ node. f (g node)) state)
change_twice state i shape f g = λ k. record {
  tree = record { geometry = state.tree.geometry; time = state.tree.time; nodes = λ j. set_twice state.tree.nodes i f g j k };
  shapes = set_at state.shapes i shape;
}

-- a write followed by setting the times is `after_write`
pub timed_write : (state : State) (now offset i : ℕ) (bytes : List ℕ) → 1 ≤ length bytes
    → change_node i (modified now) (write_body i offset bytes state) ≡ after_write state now offset bytes i
timed_write state now offset i [] h = absurd (omega arith)
timed_write state now offset i (byte ∷ bytes) h = change_twice state i _ (modified now) _

-- a truncation followed by setting the times is `after_truncate`
pub timed_truncate : (state : State) (now size i : ℕ) → change_node i (modified now) (cut_body i size state) ≡ after_truncate state now size i
timed_truncate state now size i = change_twice state i _ (modified now) _
