use Rattle.std.proofs.Common.{◌≡◌, false, length}
use Rattle.std.specs.Prelude.{◌∷◌, Some}
use Rattle.vol_dir.specs.Tree.{tree}
use Rattle.vol_dir.specs.Walk.{components, has_zero, IsComponent, parent_over}
use Rattle.vol_dir.proofs.ParentLaws.{parent_walk}
use Rattle.vol_dir.proofs.path_walk.parent_from.Given as goal

-- Invariant: the walk from the current i-node along the next name and the rest is the whole walk.
abbrev pub invariant-loop-next : goal.invariant-loop-next
invariant-loop-next l = record {
  whole : parent_over (tree l.fn.geometry l.fn.image) l.fn.cred (l.fn.first ∷ components l.fn.rest) ≡ Some (parent_walk (tree l.geometry l.image) l.cred l.dir l.name (components l.rest));
  component : IsComponent l.name;
  nonzero : has_zero l.fn.first ≡ false → has_zero l.fn.rest ≡ false → (has_zero l.name ≡ false) × (has_zero l.rest ≡ false);
}

abbrev pub decreases-loop-next : goal.decreases-loop-next
decreases-loop-next l = length l.rest
