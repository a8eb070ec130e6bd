-- Zero addresses can be stored.
use Rattle.std.proofs.Common.{rules, arith}
use Rattle.vol_layout.specs.Inode.IsStorable.{in_v7}
use Rattle.vol_layout.proofs.NewInodes.{zeros_at}
use Rattle.vol_layout.proofs.i_node.Inode.raised.Goals as goal

pub returns-clause-storable : goal.returns-clause-storable
returns-clause-storable c = in_v7 (λ k. omega (arith, zeros_at 13 k)) (search rules)
