use Rattle.std.proofs.Common.{◌≡◌, ◌++◌}
use Rattle.std.specs.List.{flat_map, range_with_len}
use Rattle.vol_layout.specs.BlockPointers.{form_at}
use Rattle.vol_inspect.specs.Owners.{AreDead, naming, owner_by}
use Rattle.vol_inspect.proofs.owners.push_nodes.Given as goal

-- Invariant: the owners so far have been added.
abbrev pub invariant-loop-before : goal.invariant-loop-before
invariant-loop-before l = record {
  dead : AreDead l.geometry l.image l.b l.dead;
  found : l.found.items ≡ l.initial.found.items ++ flat_map (λ i. owner_by i (form_at l.geometry l.image i) (naming l.geometry l.image l.b i)) (range_with_len 1 l.before);
}
