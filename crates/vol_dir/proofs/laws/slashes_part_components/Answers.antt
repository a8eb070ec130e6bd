use Rattle.vol_dir.proofs.Components.{components-nil}
use Rattle.vol_dir.proofs.PathJoins.{components-join, components-outer, components-once, components-slash}
use Rattle.vol_dir.proofs.laws.slashes_part_components.Goals as goal

pub returns : goal.returns
returns c = record {
  joined = components-join;
  outer = components-outer;
  once = components-once;
  empty = components-nil;
  slash = components-slash;
}
