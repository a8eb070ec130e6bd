use Rattle.std.proofs.Common.{arith}
use Rattle.vol_free.proofs.Stacks.{IsFree_unique, zone_behind}
use Rattle.vol_free.proofs.laws.free_blocks_are_one_list.Goals as goal

pub returns : goal.returns
returns c = λ geometry image xs ys fits first second. let behind = zone_behind fits in IsFree_unique (omega arith) first second
