use Rattle.std.proofs.Common.{◌≡◌, ◌++◌, List, ℕ, take}
use Rattle.std.specs.List.{flat_map}
use Rattle.vol_batch.specs.Removal.{path_of}
use Rattle.vol_batch.proofs.plan.push_paths.Given as goal

-- Invariant: the paths of the names so far are appended.
abbrev pub invariant-names : goal.invariant-names
invariant-names l =
    l.pending.items ≡ l.initial.pending.items ++ flat_map (λ (entry : List ℕ × ℕ). path_of l.path entry.0) (take l.name-index l.names)
