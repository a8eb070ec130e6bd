-- Walking up from a node, directory by directory.
use Rattle.std.proofs.Common.{◌≡◌, ◌≢◌, ℕ, zero, suc, ◌-◌, ◌≤◌, ◌∷◌, ◌++◌, List, None, Some, arith, rules}
use Rattle.std.specs.Prelude.{slice_get}
use Rattle.vol_layout.specs.Slot.{name_of}
use Rattle.vol_mounted.specs.Paths.{climb}
use Rattle.vol_mounted.specs.declared.known.KnownNode.{KnownNode}

-- if no step is left, there is no path
pub climb_none : (nodes : List KnownNode) (root steps i : ℕ) (rest : List ℕ) → steps ≡ 0 → climb nodes root steps i rest ≡ None
unfolding climb
climb_none nodes root zero i rest none = search rules
climb_none nodes root (suc steps) i rest none = absurd (omega arith)

-- if the root is reached, the path is `rest`
pub climb_end : (nodes : List KnownNode) (root steps i : ℕ) (rest : List ℕ) → 1 ≤ steps → i ≡ root → climb nodes root steps i rest ≡ Some rest
unfolding climb
climb_end nodes root zero i rest some at = absurd (omega arith)
climb_end nodes root (suc steps) i rest some at = search rules

-- if there is no record of the node, there is no path
pub climb_unknown : (nodes : List KnownNode) (root steps i : ℕ) (rest : List ℕ) → 1 ≤ steps → i ≢ root → slice_get nodes i ≡ None
    → climb nodes root steps i rest ≡ None
unfolding climb
climb_unknown nodes root zero i rest some apart none = absurd (omega arith)
climb_unknown nodes root (suc steps) i rest some apart none = search rules

-- if the node was never found, there is no path
pub climb_unmet : (nodes : List KnownNode) (root steps i : ℕ) (rest : List ℕ) (known : KnownNode) → 1 ≤ steps → i ≢ root → slice_get nodes i ≡ Some known
    → known.slot.inode ≡ 0 → climb nodes root steps i rest ≡ None
unfolding climb
climb_unmet nodes root zero i rest known some apart is unmet = absurd (omega arith)
climb_unmet nodes root (suc steps) i rest known some apart is unmet = search rules

-- otherwise the walk continues at the node's directory, with the node's name added before `rest`
pub climb_up : (nodes : List KnownNode) (root steps i : ℕ) (rest : List ℕ) (known : KnownNode) → 1 ≤ steps → i ≢ root → slice_get nodes i ≡ Some known
    → known.slot.inode ≢ 0 → climb nodes root steps i rest ≡ climb nodes root (steps - 1) known.directory (47 ∷ (name_of known.slot.name ++ rest))
unfolding climb
climb_up nodes root zero i rest known some apart is met = absurd (omega arith)
climb_up nodes root (suc steps) i rest known some apart is met = search rules
